pub mod Operations
pub mod History
pub mod Shown
pub mod Rule
pub mod Known
pub mod Questions
pub mod Laws
pub mod Refusals
pub mod Answered
pub mod Vacant
pub mod VetoAnswers

-- names of the crates below for those above
