pub mod AnswerLaws
pub mod ComposeAnswerLaws
pub mod TextAnswerLaws
