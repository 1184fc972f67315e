pub mod Content
pub mod ContentLaws
pub mod PassLaws
pub mod Passing
