pub mod Maps
pub mod Packets
pub mod Desks
pub mod Units
pub mod Calls
pub mod Files
pub mod ForEver
pub mod Witness
