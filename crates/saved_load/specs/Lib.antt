pub mod Views
pub mod Loading
