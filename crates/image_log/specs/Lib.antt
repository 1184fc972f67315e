pub mod LogRead
pub mod LogReadLaws
