pub mod Logged
pub mod GreatestLaws
pub mod BlockLaws
