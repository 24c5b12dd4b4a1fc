pub mod Rest
pub mod Next
