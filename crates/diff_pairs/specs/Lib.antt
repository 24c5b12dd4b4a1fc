pub mod Pairs
pub mod Parting
