pub mod Views
pub mod Handout
