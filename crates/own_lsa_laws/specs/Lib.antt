pub mod OwnCopies
pub mod Worked
pub mod Deeds
pub mod RunningRouter
