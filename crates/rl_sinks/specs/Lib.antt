pub mod LogState
pub mod Pieces
pub mod SinkState
pub mod TailState
pub mod Texts
