pub mod Parts
pub mod Answers
pub mod PartLaws
pub mod PartCases
pub mod ValueCases
