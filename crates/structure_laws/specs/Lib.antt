pub mod Notions
pub mod Theorems
