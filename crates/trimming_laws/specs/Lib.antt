pub mod Trimmed
pub mod Ends
pub mod Kinds
