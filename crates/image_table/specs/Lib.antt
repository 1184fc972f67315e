pub mod TableReading
pub mod ReadingLaws
