pub mod Key
pub mod KeyLaws
