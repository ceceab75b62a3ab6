-- Laws that the crates above rest on.
pub mod AnswerLaws
pub mod EachLaws
pub mod NoteLaws
pub mod RewriteLaws
pub mod VisitorLaws
pub mod UseLaws
