pub mod Agreement
pub mod Openings
pub mod Firsts
pub mod Ends
pub mod Cuts
pub mod Interchanges
pub mod Figures
pub mod Theorems
