pub mod Rest
pub mod Fields
