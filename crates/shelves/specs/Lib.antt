pub mod Layout
pub mod Soundness
pub mod Answers
pub mod Summary
pub mod Operations
