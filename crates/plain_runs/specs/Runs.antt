-- Runs of bytes of which none is a service character. Assumes nothing.
use Rattle.std.specs.Prelude.{ℕ, ◌≤◌, ◌<◌, ◌≡◌, false, List, length, get_or}
use Rattle.characters.specs.declared.Characters.{Characters}
use Rattle.characters.specs.Characters.{is_service}

-- the bytes from a place up to another are there, and none of them is a service character
abbrev pub PlainRun : Characters → List ℕ → ℕ → ℕ → Type 0
PlainRun c s from to = (from ≤ to) × ((k : ℕ) → from ≤ k → k < to → (k < length s) × (is_service c (get_or s k 0) ≡ false))
