pub mod Rows
pub mod Taken
pub mod Listed
pub mod Stages
