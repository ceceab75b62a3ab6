pub mod Deletes
pub mod Horizons
pub mod Views
pub mod laws
