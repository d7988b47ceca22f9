pub mod Opened
pub mod Restored
pub mod Theorems
