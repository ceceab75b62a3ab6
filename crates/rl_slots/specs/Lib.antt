pub mod Slots
pub mod laws
