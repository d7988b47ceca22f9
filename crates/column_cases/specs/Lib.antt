pub mod Cases
pub mod Theorem
