pub mod Bound
pub mod Unshared
