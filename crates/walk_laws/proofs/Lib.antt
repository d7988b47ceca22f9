pub mod Counts
pub mod Places
pub mod Walks
pub mod Sections
