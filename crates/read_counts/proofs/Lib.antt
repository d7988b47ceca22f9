pub mod Marks
pub mod Contents
pub mod Steps
pub mod Counts
pub mod Records
pub mod Runs
