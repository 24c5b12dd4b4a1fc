pub mod Chain
pub mod Good
pub mod Formats
pub mod Bounds
pub mod Rows
