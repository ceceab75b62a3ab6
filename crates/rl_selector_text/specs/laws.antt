-- Laws that the code rests on.
pub mod Runs
