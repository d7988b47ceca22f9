pub mod Service
pub mod Tokens
pub mod Listing
pub mod Laws
