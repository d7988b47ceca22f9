pub mod Cases
pub mod Steps
pub mod Runs
pub mod Level
pub mod Parts
pub mod Spelled
pub mod Theorems
