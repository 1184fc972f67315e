pub mod Row
pub mod Waiting
pub mod Greatest
