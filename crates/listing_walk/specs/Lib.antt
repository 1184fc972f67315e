pub mod Lines
pub mod LinesLaws
pub mod Walked
pub mod WalkLaws
