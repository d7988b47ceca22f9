pub mod Rows
pub mod Rising
pub mod Segments
pub mod Walks
pub mod Worded
