pub mod Walking
pub mod Language
pub mod Bodies
pub mod Judging
pub mod Notions
