pub mod Tokens
pub mod Values
pub mod Trimming
pub mod Spelling
pub mod Notions
