pub mod Drafted
