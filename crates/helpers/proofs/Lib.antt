pub mod Seats
pub mod Faults
