pub mod Values
pub mod Written
pub mod Numbers
pub mod Positions
pub mod Places
pub mod Respelled
pub mod Placed
pub mod Theorems
