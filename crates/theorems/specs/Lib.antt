pub mod Demands
pub mod FromContracts
