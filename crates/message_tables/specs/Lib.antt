pub mod Entries
pub mod Soundness
pub mod Structure
pub mod Notions
