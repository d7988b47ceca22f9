pub mod Stores
pub mod Putting
