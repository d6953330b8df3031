pub mod Built
pub mod Explained
pub mod Faulted
pub mod Found
pub mod Hooked
pub mod Told
pub mod Tried
pub mod Unchanged
