pub mod Reading
pub mod Failing
pub mod Taken
