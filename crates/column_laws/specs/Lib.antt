pub mod Columns
pub mod Positions
pub mod Idle
