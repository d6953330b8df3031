pub mod Answers
pub mod Commands
pub mod Configurations
pub mod Views
pub mod Words
pub mod Laws
