pub mod Views
pub mod Settling
