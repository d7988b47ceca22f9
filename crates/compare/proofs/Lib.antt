pub mod Compared
pub mod Turned
pub mod Keeping
