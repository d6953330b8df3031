pub mod Access
pub mod Refusals
pub mod Words
