pub mod Reordering
pub mod NewTexts
pub mod OnePut
pub mod TwoPuts
pub mod ManyPuts
pub mod RoomNeeded
pub mod Theorems
pub mod Occurs
