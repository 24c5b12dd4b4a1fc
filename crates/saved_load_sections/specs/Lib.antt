pub mod Views
pub mod Sections
