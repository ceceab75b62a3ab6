mod Examples
pub mod Asked
pub mod Built
pub mod Few
pub mod Listed
pub mod Right
pub mod Settled
pub mod Ranges
pub mod Journals
pub mod Taken
pub mod Turned
pub mod Narrow
pub mod Picked
pub mod Crossing
