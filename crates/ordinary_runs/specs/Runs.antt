-- Runs of bytes that stand for themselves under all service characters that are in use. Assumes nothing.
use Rattle.std.specs.Prelude.{ℕ, ◌+◌, ◌-◌, ◌≤◌, ◌<◌, ◌≡◌, Bool, true, not, ◌||◌, List, length, get_or}
use Rattle.characters.specs.declared.Characters.{Characters}
use Rattle.characters.specs.Characters.{upper, digit}
use Rattle.emission_laws.specs.declared.Measure.{Measure}

-- a digit or an upper case letter
unfoldable pub is_ordinary : ℕ → Bool
is_ordinary b = digit b || upper b

-- no service character is one: each is "a byte 33 to 126 that is no letter or digit, or one of 28, 29, 31", or a space for none
unfoldable pub quiet : Characters → Bool
quiet c =
    not (is_ordinary c.component || (is_ordinary c.element || (is_ordinary c.release || (is_ordinary c.repetition || is_ordinary c.terminator))))

-- the bytes from a place up to another are there and are ordinary; none are where the characters do not allow it
abbrev pub Run : Bool → List ℕ → ℕ → ℕ → Type 0
Run calm s from to = (from ≤ to) × ((k : ℕ) → from ≤ k → k < to → (calm ≡ true) × (k < length s) × (is_ordinary (get_or s k 0) ≡ true))

-- every run from a place on fits into so much room, put from a place on
abbrev pub RunFits : Bool → List ℕ → ℕ → ℕ → ℕ → Type 0
RunFits calm s from into room = (to : ℕ) → Run calm s from to → into + (to - from) ≤ room

-- a text that is so many bytes longer
abbrev pub longer : Measure → ℕ → Measure
longer m count = record { total = m.total + count; held = m.held }
