mod Documents
pub mod Answering
pub mod Calling
pub mod Cut
pub mod Gathering
mod Ids
mod Known
pub mod Lines
mod Printing
pub mod Following
pub mod LinesSoFar
mod WithoutBlocks
mod Endings
mod Texts
pub mod Printers
mod Examples
pub mod Worlds
