pub mod Sequence
pub mod SequenceLaws
pub mod SearchLaws
