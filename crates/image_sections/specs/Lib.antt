pub mod LogPlaces
pub mod LogPlaceLaws
pub mod HeldLaws
pub mod Sections
pub mod OriginBytes
pub mod SectionLaws
