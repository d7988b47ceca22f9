pub mod Answered
pub mod Words
pub mod Located
pub mod Cases
