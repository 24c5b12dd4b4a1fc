pub mod Views
pub mod Scanning
pub mod Judging
pub mod Feeding
