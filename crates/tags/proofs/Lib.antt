pub mod Reading
pub mod Repeats
pub mod Tagging
