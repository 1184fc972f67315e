pub mod Next
pub mod NextLaws
pub mod Ordered
pub mod OrderLaws
