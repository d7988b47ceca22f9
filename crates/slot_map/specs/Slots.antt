-- The two numbers read off a map. Assumes nothing.
use Rattle.std.specs.Prelude.{ℕ, not, length}
use Rattle.lists.specs.Lists.{those, at, maybe}
use Rattle.shelves.specs.Layout.{slot_count, below, bit}

-- how many slots are occupied
unfoldable pub occupied_count : ℕ → ℕ
occupied_count map = length (those (bit map) (below slot_count))

-- the lowest free slot; 64 where none is free
unfoldable pub lowest_free_in : ℕ → ℕ
lowest_free_in map = maybe slot_count (λ k. k) (at (those (λ k. not (bit map k)) (below slot_count)) 0)
