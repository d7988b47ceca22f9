pub mod Sinks
pub mod Kept
