pub mod Fillings
pub mod Moving
pub mod Running
pub mod Sliding
pub mod Standing
pub mod Visiting
