-- Laws and lemmas that the crates above rest on.
pub mod LabelLaws
pub mod OrderLaws
pub mod QuantityLaws
pub mod TextLaws
