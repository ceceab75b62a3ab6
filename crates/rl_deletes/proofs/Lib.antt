pub mod Crossing
mod Ends
mod Received
