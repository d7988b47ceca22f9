pub mod Parts
pub mod Cases
pub mod Bare
