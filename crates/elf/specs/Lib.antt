pub mod Numbers
pub mod Entries
pub mod Files
pub mod Faults
pub mod Lists
