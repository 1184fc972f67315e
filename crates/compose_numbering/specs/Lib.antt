pub mod NumberLaws
pub mod GroupLaws
