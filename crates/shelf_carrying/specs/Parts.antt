-- A slot's pair once all from the pairs on has moved to its place in the other layout, and its start is raised or lowered. Assumes nothing.
use Rattle.std.specs.Prelude.{ℕ, ◌+◌, ◌-◌, ◌≤◌, ◌<◌, ◌≡◌, true, List, if◌then◌else◌}
use Rattle.lists.specs.Lists.{gather}
use Rattle.shelves.specs.Layout.{Layout, slot_count, below, bit, base, start_of, length_of}
use Rattle.shelves.specs.Operations.{pair_of}

module _ (from to : Layout) (map : ℕ) where
  unfoldable pub shifted_pair : (moved : List ℕ) → ℕ → List ℕ
  shifted_pair moved k =
      if bit map k then pair_of (base to + (start_of to moved k - base from)) (length_of to moved k) else pair_of 0 0

  unfoldable pub shifted_pairs : (moved : List ℕ) → ℕ → List ℕ
  shifted_pairs moved n = gather (shifted_pair moved) (below n)

  -- each kept text starts in the room of the texts
  abbrev pub Shifts : (moved : List ℕ) → Type 0
  Shifts moved = (k : ℕ) → k < slot_count → bit map k ≡ true → base from ≤ start_of to moved k
