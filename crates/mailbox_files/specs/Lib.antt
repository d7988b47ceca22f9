pub mod Pieces
pub mod Stops
pub mod Report
pub mod Promises
pub mod Notions
