pub mod Claims
pub mod Flagged
pub mod Merged
pub mod Founded
pub mod Faults
pub mod Driven
