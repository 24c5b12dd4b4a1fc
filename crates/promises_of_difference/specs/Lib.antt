pub mod Offsets
pub mod Classes
pub mod Parting
pub mod Counting
pub mod Swapped
pub mod Walk
pub mod Example
