pub mod Flooded
pub mod Firsts
pub mod Holding
pub mod Roomy
pub mod Told
pub mod Examined
pub mod Marks
