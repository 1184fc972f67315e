pub mod Offsets
pub mod OffsetLaws
