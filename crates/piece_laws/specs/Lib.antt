pub mod PieceEnds
pub mod Cases
pub mod Theorem
