pub mod Building
pub mod Empty
pub mod Matching
pub mod laws
