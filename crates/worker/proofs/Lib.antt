mod FreshSeats
mod SeatsOf
mod Sending
mod Living
mod Tries
mod Refused
mod Silent
mod Binding
pub mod Counted
