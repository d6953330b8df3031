pub mod Distinct
pub mod Early
pub mod Refusing
pub mod Happening
pub mod Drafting
pub mod Made
pub mod Starting
pub mod Offering
pub mod Answering
pub mod Kept
pub mod Owing
mod Replayed
mod Unheeded
mod Forgotten
mod Noted
pub mod Allowed
pub mod Within
