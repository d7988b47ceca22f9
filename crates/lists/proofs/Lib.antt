pub mod Texts
pub mod Tests
pub mod Numbers
pub mod Pieces
pub mod Ends
pub mod Cases
