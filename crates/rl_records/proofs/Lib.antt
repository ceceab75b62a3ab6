pub mod Crossing
pub mod Put
