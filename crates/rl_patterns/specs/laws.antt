-- Laws that the crates above rest on.
pub mod Utf8
pub mod Wholes
