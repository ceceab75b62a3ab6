-- Laws and lemmas that the crates above rest on.
pub mod Absences
pub mod Bounds
pub mod Counting
pub mod Groups
pub mod Runs
pub mod Sums
pub mod Totals
pub mod Trees
pub mod Within
