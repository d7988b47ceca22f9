pub mod OldShelves
