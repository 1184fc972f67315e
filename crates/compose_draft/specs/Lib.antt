pub mod Drafting
pub mod DraftingLaws
