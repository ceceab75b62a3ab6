pub mod Crossing
pub mod OwnLines
pub mod Passes
pub mod Texts
mod Places
mod LinePrinted
mod BlockPrinted
mod BlocksSoFar
mod BlockRun
