pub mod Walk
pub mod Own
