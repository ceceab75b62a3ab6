pub mod After
pub mod Arrays
pub mod Chains
pub mod Expansions
pub mod Handed
pub mod Judged
pub mod Moments
pub mod Numbers
