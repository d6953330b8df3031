pub mod Kept
pub mod Links
pub mod Drafted
pub mod Doing
pub mod Cases
pub mod Steps
pub mod Owed
