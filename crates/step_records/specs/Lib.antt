pub mod Frame
pub mod FrameLaws
pub mod Records
pub mod RecordLaws
