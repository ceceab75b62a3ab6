pub mod ChunkText
pub mod ChunkReading
pub mod DirState
pub mod EntryLines
pub mod MemState
pub mod Spoiling
pub mod StoreState
