-- Laws and lemmas that the crates above rest on.
pub mod ReadLaws
pub mod RunLaws
pub mod ShownLaws
pub mod StoreLaws
