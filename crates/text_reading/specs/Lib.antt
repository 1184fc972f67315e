pub mod Parts
pub mod ByteLaws
pub mod ReadCases
