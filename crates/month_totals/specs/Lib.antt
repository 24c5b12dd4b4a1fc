pub mod Views
pub mod Summing
pub mod Merging
