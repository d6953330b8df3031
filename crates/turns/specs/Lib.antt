-- what a router offers, for those above
-- and which routers events lead to
pub mod Askers
pub mod Turns
pub mod Laws
pub mod Numbers

-- what crates above name of those below
