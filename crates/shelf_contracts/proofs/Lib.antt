pub mod Told
pub mod Tight
pub mod Cases
