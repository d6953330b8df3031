pub mod BitLemmas
pub mod Widths
