pub mod Decimals
pub mod Columned
pub mod Listed
pub mod Positions
pub mod Idle
pub mod Theorems
