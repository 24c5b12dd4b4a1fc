pub mod Over
pub mod Fields
pub mod Stores
