pub mod Above
pub mod Waiting
pub mod Checking
pub mod CheckingLaws
