pub mod Steps
pub mod Trimmed
