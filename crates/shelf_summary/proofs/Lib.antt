pub mod Stores
pub mod Backs
pub mod Cores
