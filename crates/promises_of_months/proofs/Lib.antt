pub mod Counted
pub mod Parts
pub mod ManyParts
pub mod Named
pub mod Causes
pub mod Chains
pub mod Main
