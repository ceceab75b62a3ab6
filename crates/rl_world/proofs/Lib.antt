pub mod Crossing
pub mod Asking
pub mod Closing
pub mod Committing
pub mod Counting
pub mod Gathering
pub mod Items
pub mod Lifting
pub mod Merging
pub mod Moments
pub mod Offers
pub mod Opening
pub mod Running
pub mod Shown
pub mod Turning
mod Examples
