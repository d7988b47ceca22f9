pub mod Ends
pub mod Service
pub mod Followed
pub mod First
