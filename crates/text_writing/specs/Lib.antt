pub mod Parts
pub mod CharacterLaws
pub mod PutLaws
