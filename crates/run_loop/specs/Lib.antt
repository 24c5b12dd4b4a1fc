pub mod Views
pub mod Turning
