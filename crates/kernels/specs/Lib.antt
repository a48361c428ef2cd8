pub mod Moved
pub mod Masks
pub mod Words
pub mod Ordered
pub mod Targets
