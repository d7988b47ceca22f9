pub mod InWords
pub mod Histories
pub mod Shelf
