pub mod Begun
pub mod Answered
pub mod Done
pub mod Served
mod Read
