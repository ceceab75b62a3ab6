pub mod Forms
pub mod FrameReading
pub mod LabelReading
pub mod RecordReading
pub mod Records
pub mod SegmentReading
pub mod SegmentText
