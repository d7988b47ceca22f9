pub mod Allowed
pub mod Refused
pub mod Counts
pub mod Same
pub mod Breaks
