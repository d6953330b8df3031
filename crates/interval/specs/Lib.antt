pub mod Bounds
pub mod Results
pub mod Order
pub mod Signs
pub mod Members
pub mod Narrow
