pub mod Fetches
pub mod Unpacked
