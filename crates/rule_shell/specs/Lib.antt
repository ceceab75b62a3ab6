pub mod Options
pub mod Runs
pub mod Statuses
pub mod Stores
