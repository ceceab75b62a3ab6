pub mod Asked
pub mod Books
pub mod Committing
pub mod Crossing
pub mod Ending
pub mod Gathering
pub mod Noted
