pub mod Among
pub mod Finding
