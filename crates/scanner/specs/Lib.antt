pub mod Scanner
pub mod Scan
