pub mod Tight
pub mod Words
pub mod Cases
