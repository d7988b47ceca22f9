pub mod Entries
pub mod Rooms
pub mod Fitting
pub mod Nesting
pub mod Tree
pub mod Scanning
pub mod Tags
pub mod Rising
