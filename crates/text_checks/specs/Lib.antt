pub mod Answer
pub mod FormLaws
