pub mod Writing
pub mod StandingLaws
pub mod WritingLaws
