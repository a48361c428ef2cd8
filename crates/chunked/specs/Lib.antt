pub mod Served
pub mod Spans
pub mod Deliveries
