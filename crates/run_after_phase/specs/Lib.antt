pub mod Views
pub mod Landing
