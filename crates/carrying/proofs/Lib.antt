pub mod Tight
pub mod Answered
pub mod Parts
pub mod Carried
pub mod Ways
pub mod Cases
