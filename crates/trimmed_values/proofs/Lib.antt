pub mod Trimmed
pub mod Contents
pub mod Ends
pub mod Places
pub mod Same
