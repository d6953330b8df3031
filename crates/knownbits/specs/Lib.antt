pub mod Masks
pub mod Known
