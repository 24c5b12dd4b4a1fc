pub mod Views
pub mod Saving
