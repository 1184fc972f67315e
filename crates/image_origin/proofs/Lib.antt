pub mod BaseValues
pub mod Parts
pub mod Places
pub mod Unpurged
