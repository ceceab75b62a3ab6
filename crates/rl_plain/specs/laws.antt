-- Laws and lemmas that the crates above rest on.
pub mod Bools
pub mod Cuts
pub mod Reading
pub mod TreeMaps
