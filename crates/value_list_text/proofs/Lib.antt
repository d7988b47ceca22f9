pub mod Tokens
pub mod Composed
pub mod Lengths
pub mod Advancing
pub mod Standing
pub mod Rows
pub mod Putting
