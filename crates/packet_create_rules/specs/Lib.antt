pub mod Backing
