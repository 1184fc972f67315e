pub mod Walk
pub mod EndLaws
