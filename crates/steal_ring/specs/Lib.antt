pub mod Conservation
pub mod Seats
pub mod Faults
