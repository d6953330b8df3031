pub mod Fronts
pub mod Keys
pub mod Places
pub mod Neighbors
pub mod Stay
pub mod Roots
pub mod Limits
pub mod Candidates
pub mod Matches
pub mod AfterExternals
pub mod Externals
mod Unwalked
