pub mod Labors
pub mod Lines
pub mod Refusals
pub mod Statuses
pub mod Sums
pub mod Talks
pub mod Texts
