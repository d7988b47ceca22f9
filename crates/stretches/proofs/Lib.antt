pub mod Stretching
pub mod Steps
pub mod Alike
pub mod Releasing
