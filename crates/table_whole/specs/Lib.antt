pub mod Whole
pub mod Steps
