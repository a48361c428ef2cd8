pub mod Fetched
pub mod Parts
pub mod Packing
