pub mod Passing
pub mod Unbroken
