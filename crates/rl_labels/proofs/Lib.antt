pub mod Building
pub mod Crossing
pub mod Digits
pub mod Durations
pub mod FromPairs
pub mod Halves
pub mod Overrides
pub mod PairAnswers
pub mod Rows
pub mod Sameness
pub mod Selecting
pub mod Steps
pub mod TextLengths
pub mod Trees
mod Examples
