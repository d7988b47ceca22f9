pub mod Levels
pub mod Notions
