pub mod EmptyAnswer
pub mod EmptyCases
