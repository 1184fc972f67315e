pub mod TopLaws
pub mod RaiseLaws
pub mod RaiseRight
pub mod OriginLaws
pub mod SectionLaws
