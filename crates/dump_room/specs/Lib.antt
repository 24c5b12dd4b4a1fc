pub mod Widest
pub mod Longest
pub mod Fitting
