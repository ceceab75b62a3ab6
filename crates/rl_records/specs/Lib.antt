pub mod Prints
pub mod RecordBytes
pub mod Replies
