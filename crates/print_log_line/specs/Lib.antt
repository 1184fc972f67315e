pub mod Rooms
pub mod Lines
pub mod LineLaws
