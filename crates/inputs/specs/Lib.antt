pub mod Counts
pub mod Number
pub mod WideNumber
