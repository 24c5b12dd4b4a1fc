pub mod Judging
pub mod Fields
pub mod Kept
pub mod Items
pub mod Good
