pub mod Tight
pub mod Decimals
pub mod Words
pub mod Cases
pub mod Answered
