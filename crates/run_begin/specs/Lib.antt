pub mod Views
pub mod Beginning
