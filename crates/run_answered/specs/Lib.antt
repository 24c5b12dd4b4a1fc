pub mod Views
pub mod Answered
