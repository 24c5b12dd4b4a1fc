pub mod Sums
pub mod Counted
pub mod Parts
pub mod Named
pub mod Causes
pub mod Chains
pub mod Worked
pub mod Main
