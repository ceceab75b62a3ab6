mod Asked
mod Crossing
mod FreshSinks
mod Ran
mod Running
