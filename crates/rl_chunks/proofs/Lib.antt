pub mod Blobs
pub mod Chunks
pub mod Fields
pub mod Items
pub mod Labels
pub mod Turns
