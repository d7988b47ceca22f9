pub mod Judge
pub mod Compare
pub mod Locate
pub mod ValueList
pub mod Read
pub mod Write
pub mod Notions
