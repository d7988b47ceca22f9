pub mod Measured
pub mod Put
pub mod Going
