-- Laws that the crates above rest on.
pub mod Shown
