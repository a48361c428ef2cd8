pub mod Admitted
pub mod Formed
pub mod Packed
pub mod Extracts
pub mod Stored
pub mod Taken
pub mod Picked
