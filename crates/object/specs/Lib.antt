pub mod Numbers
pub mod Sets
pub mod Packing
pub mod Statements
pub mod Objects
pub mod Spelling
pub mod Fields
pub mod Refusals
