pub mod Views
pub mod Packets
pub mod Inputs
