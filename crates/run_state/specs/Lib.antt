pub mod Views
pub mod Spelled
pub mod Reading
pub mod Stages
pub mod Resting
