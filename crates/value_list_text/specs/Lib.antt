pub mod Composing
pub mod Advancing
pub mod Standing
