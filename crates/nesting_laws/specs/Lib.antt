pub mod Trimmed
pub mod Ends
