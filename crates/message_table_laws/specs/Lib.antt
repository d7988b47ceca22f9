pub mod Nesting
pub mod Scanning
