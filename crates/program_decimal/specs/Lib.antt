pub mod Puts
pub mod PutsLaws
pub mod DigitLaws
pub mod Ahead
pub mod Front
