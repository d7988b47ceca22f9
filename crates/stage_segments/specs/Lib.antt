pub mod Segment
