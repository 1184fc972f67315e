pub mod Names
pub mod IndexLaws
pub mod NameLaws
pub mod Rows
pub mod WantedLaws
pub mod RowLaws
