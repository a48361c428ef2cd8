pub mod Slices
pub mod Bits
pub mod Accumulated
