pub mod Classes
pub mod Clean
pub mod Lists
pub mod Runs
