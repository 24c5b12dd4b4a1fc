pub mod Scan
pub mod Names
