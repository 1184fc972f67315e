pub mod EmptyLaws
pub mod Listing
