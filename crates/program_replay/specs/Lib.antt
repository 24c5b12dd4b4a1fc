pub mod Lent
pub mod ScriptError
