pub mod Loops
pub mod Ranges
pub mod Gathered
pub mod Forms
pub mod Whole
pub mod Asking
