pub mod Alike
pub mod AsMany
pub mod Ended
mod Talked
mod Reading
