pub mod Texts
pub mod Shown
pub mod Reasons
pub mod Answers
pub mod Served
