pub mod Words
pub mod StartLaws
