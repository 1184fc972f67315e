pub mod Marks
pub mod MarkLaws
pub mod Unneeded
pub mod UnneededLaws
pub mod FindingLaws
