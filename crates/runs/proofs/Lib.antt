pub mod Fees
pub mod Steps
pub mod Balance
pub mod Agreement
pub mod Noted
