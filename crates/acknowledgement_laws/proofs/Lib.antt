pub mod Lent
pub mod Received
pub mod Opened
pub mod Numbers
pub mod Theorems
