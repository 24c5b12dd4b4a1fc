pub mod Whole
pub mod Near
pub mod File
pub mod Good
