pub mod Shortens
pub mod Within
pub mod OwnForm
