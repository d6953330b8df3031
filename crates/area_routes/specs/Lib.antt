pub mod GraphChanges
pub mod GraphLinks
pub mod Vertices
pub mod Offers
pub mod Kept

-- re-exported for the crates above
