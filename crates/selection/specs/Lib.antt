pub mod Refusals
pub mod Selected
pub mod Items
pub mod Ranges
