-- re-exported for the crates above: how a run ends, and how one of an accepted program does
pub mod Classes
pub mod Halts
pub mod Limits
pub mod ObjectRuns
pub mod Outcome
pub mod Performs
