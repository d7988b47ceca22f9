pub mod Positions
pub mod Control
pub mod Notions
pub mod Sections
