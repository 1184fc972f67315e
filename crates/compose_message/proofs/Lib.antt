pub mod Drafts
pub mod Late
