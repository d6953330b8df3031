pub mod Outcomes
pub mod Sends
pub mod Packings
pub mod Rooms
pub mod Fitting
pub mod Walk
pub mod Roomy
mod Skipped
pub mod Clocks
pub mod Unheeded
