pub mod Sizes
pub mod Cuts
pub mod Firsts
pub mod Records
pub mod Bodies
pub mod Again
pub mod Whole
pub mod Patch
mod Typed
pub mod Writable
pub mod Sums
