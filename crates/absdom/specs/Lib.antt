pub mod Unary
pub mod Narrowing
