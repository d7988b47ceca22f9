pub mod Trimmed
pub mod Nesting
pub mod Starts
pub mod Tables
