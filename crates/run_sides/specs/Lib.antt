pub mod Views
pub mod Sides
