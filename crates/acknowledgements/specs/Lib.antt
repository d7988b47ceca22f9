pub mod Lent
pub mod Received
pub mod Acknowledgement
pub mod Promises
pub mod Notions
