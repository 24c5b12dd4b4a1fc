pub mod Ending
pub mod Entries
