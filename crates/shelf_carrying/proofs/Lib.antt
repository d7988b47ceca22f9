pub mod Pairs
pub mod Moved
pub mod Answers
