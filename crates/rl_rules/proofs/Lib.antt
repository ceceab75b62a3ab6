mod Alerted
pub mod Crossing
pub mod Edited
mod Finals
mod Named
mod Recorded
mod Shapes
mod Walks
