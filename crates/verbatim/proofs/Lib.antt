pub mod Held
pub mod Emitted
pub mod Sound
