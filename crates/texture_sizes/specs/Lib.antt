pub mod Mips
pub mod Layers
pub mod Packed
pub mod Places
