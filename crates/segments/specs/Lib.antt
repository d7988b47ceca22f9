pub mod Kinds
pub mod Tags
pub mod Order
pub mod Notions
