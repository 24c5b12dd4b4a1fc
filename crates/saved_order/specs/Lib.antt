pub mod Next
pub mod Orders
pub mod Risen
