pub mod Asking
pub mod Crossing
pub mod Full
pub mod Listing
pub mod Picking
pub mod Setting
pub mod Tables
pub mod Visiting
