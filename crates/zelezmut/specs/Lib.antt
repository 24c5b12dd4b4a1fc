pub mod Said
pub mod Saying
pub mod LoadedWhole
pub mod Difference
