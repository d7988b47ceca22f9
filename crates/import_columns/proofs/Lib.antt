pub mod Lines
pub mod Checks
pub mod Passes
pub mod Stages
