pub mod Dirty
