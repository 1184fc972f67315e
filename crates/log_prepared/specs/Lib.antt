pub mod Keys
pub mod KeyMaking
