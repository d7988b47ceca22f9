-- The next place at which a test passes, and such places of a list that is cut into blocks of one size. Assumes nothing.
use Rattle.std.specs.Prelude.{ℕ, ◌+◌, ◌*◌, ◌≤◌, ◌<◌, ◌≡◌, Bool, List, [], ◌∷◌, length, drop, get_or, if◌then◌else◌}

-- how many blocks there are at most
abbrev pub blocks : ℕ
blocks = 1024

-- how many stand before the first that passes the test; all where none passes
unfoldable pub ahead : (ℕ → Bool) → List ℕ → ℕ
ahead t [] = 0
ahead t (x ∷ xs) = if t x then 0 else ahead t xs + 1

-- the first place from a place on at which the test passes, or the list's length
unfoldable pub next_place : (ℕ → Bool) → List ℕ → ℕ → ℕ
next_place t s from = from + ahead t (drop from s)

-- the list has that many blocks at most, and the place at the number of each is the first from its start on
pub record Noted (t : ℕ → Bool) (s : List ℕ) (size : ℕ) (places : List ℕ) : Type 0 where
  pub some : 0 < size
  pub few : length s < blocks * size
  pub told : (k : ℕ) → k * size ≤ length s → get_or places k 0 ≡ next_place t s (k * size)
