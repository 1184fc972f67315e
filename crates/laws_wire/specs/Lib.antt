pub mod BytesLaws
pub mod MessageLaws
pub mod StepBytesLaws
pub mod RecordLaws
pub mod RecordReading
