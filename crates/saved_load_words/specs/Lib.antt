pub mod Views
pub mod Words
