pub mod Inserted
pub mod Shifted
