-- Laws and lemmas that the crates above rest on.
pub mod Alike
pub mod Ranges
pub mod Stamps
pub mod Sums
