pub mod Promises
pub mod Tight
