pub mod Beginnings
pub mod Openings
pub mod Runs
pub mod Usable
