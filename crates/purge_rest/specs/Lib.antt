pub mod Rest
pub mod RestLaws
