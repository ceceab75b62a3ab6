pub mod Receipts
pub mod Rulers
pub mod Seats
pub mod Closing
