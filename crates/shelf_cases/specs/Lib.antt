pub mod Cases
pub mod CasesTwo
pub mod Theorem
