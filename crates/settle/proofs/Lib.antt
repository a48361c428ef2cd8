pub mod Sums
pub mod Chunks
pub mod Settled
pub mod Tallying
pub mod Bitmaps
