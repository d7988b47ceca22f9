pub mod Verdicts
pub mod Answered
pub mod Parts
pub mod Rules
pub mod OfShelf
pub mod OfMailbox
pub mod OfParties
