pub mod Storing
pub mod Runs
