pub mod Dump
pub mod Names
pub mod Full
pub mod Call
