pub mod Crossing
pub mod Durations
pub mod SameTests
pub mod SameForms
