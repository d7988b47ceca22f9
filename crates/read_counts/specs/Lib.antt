pub mod Marks
pub mod Tally
