-- Laws and lemmas that the crates above rest on.
pub mod Alike
pub mod Exact
pub mod Living
pub mod Visits
