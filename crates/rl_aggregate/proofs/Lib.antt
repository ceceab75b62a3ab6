pub mod Absences
pub mod Counters
pub mod Crossing
pub mod Dividing
pub mod Grouped
pub mod Kept
pub mod Maps
pub mod Merging
pub mod Ranked
pub mod Scratched
pub mod Accumulating
pub mod Thresholds
mod Examples
