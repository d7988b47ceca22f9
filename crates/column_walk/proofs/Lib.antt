pub mod Walk
pub mod Checking
