pub mod Seen
pub mod Walk
pub mod Begin
