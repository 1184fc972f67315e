pub mod Rooms
pub mod LineLaws
pub mod LineSizes
