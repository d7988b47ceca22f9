pub mod Characters
pub mod Notions
