pub mod Stretches
pub mod Releases
