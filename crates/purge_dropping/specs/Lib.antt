pub mod PurgeAnswer
pub mod PurgeCases
pub mod Dropping
pub mod DropLaws
