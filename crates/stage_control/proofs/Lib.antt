pub mod Kept
pub mod Segment
pub mod Stage
