pub mod Buckets
pub mod Built
pub mod Filling
pub mod Ranges
pub mod Windows
pub mod laws
