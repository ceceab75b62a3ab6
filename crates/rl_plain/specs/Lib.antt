pub mod Answers
pub mod Escapes
pub mod Hexadecimal
pub mod Runs
pub mod Sharing
pub mod laws
