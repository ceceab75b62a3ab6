pub mod Document
pub mod Judging
pub mod Counting
pub mod Happening
pub mod Numbering
pub mod Playing
