pub mod Floors
pub mod FloorLaws
