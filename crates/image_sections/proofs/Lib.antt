pub mod Among
pub mod Copying
