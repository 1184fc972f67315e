pub mod Commands
pub mod CommandLaws
pub mod DeltaLaws
pub mod Running
pub mod RunningLaws
