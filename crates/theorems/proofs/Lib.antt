pub mod Buffers
pub mod Demands
pub mod FromContracts
