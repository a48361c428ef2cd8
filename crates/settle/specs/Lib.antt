pub mod Prices
pub mod Pushes
pub mod Tallies
pub mod Bounds
