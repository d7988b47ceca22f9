pub mod Mapped
pub mod Spelled
pub mod Taken
pub mod Exactly
pub mod Theorems
