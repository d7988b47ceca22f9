pub mod Parts
pub mod Standing
