pub mod Bound
pub mod Import
pub mod Release
