pub mod Structs
pub mod Says
