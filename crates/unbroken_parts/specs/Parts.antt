-- A text without line breaks, from a place on. Assumes nothing.
use Rattle.std.specs.Prelude.{ℕ, ◌≤◌, ◌<◌, ◌≡◌, true, List, leb, length, get_or}

-- no byte from a place on is below the space
abbrev pub Unbroken : List ℕ → ℕ → Type 0
Unbroken s start = (k : ℕ) → start ≤ k → k < length s → leb 32 (get_or s k 0) ≡ true
