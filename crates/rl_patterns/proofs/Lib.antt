pub mod Answered
pub mod Crossing
pub mod Emptiness
pub mod Readings
mod Examples
