pub mod Views
pub mod Phases
pub mod Turns
