pub mod Askers
mod Asked
mod Away
mod Clocks
mod Configured
mod Counted
mod Followed
mod FromSome
mod LetIn
mod Tables
mod Sooner
mod Unread
