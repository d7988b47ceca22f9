pub mod Tight
pub mod Cases
