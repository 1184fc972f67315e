pub mod Check
pub mod LayoutLaws
pub mod Header
pub mod HeaderLaws
