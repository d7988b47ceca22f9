pub mod Moving
pub mod Releases
