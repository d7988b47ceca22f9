pub mod Counting
pub mod Bounds
pub mod Going
