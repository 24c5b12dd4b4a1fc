pub mod Views
pub mod Resources
