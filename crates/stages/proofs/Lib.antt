pub mod Over
pub mod Stages
pub mod Words
pub mod Cases
