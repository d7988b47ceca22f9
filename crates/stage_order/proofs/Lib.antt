pub mod Sections
pub mod GoesOn
