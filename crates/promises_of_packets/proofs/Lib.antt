pub mod Names
pub mod SoundNames
pub mod Effects
pub mod Held
