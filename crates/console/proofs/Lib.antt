pub mod Numbers
pub mod Seen
pub mod Pieces
pub mod Lines
pub mod Profile
