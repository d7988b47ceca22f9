pub mod Lines
pub mod Reading
pub mod Operations
pub mod Promises
