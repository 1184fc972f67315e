pub mod Rooms
pub mod ValueLaws
pub mod Commands
pub mod CommandLaws
