pub mod Views
pub mod Writing
