pub mod LogOrder
pub mod LogOrderLaws
