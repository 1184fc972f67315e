pub mod AnswerLaws
pub mod InputLaws
