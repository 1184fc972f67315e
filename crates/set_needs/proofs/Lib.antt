pub mod Reading
pub mod Halving
pub mod Filling
pub mod Filled
pub mod Needing
