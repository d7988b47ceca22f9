pub mod Entries
pub mod Steps
pub mod Standing
pub mod Going
