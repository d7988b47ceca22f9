pub mod Bound
pub mod Counted
