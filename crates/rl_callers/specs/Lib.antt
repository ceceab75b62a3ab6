pub mod Blocks
pub mod Callers
pub mod Names
