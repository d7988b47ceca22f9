-- Stretches: bytes of a body that are spelled byte for byte with other service characters, each separator by the one of its rank (paper 01,
-- "Normal form": "the contents spelled with those characters"). A test of each byte and the next finds them; it says so of no other bytes,
-- and misses some. Assumes nothing.
use Rattle.std.specs.Prelude.{ℕ, zero, suc, ◌+◌, ◌-◌, ◌≤◌, ◌<◌, ◌≡◌, Bool, false, not, ◌&&◌, ◌||◌, List, [], ◌∷◌, ◌++◌, eqb, length, get_or}
use Rattle.characters.specs.declared.Characters.{Characters}
use Rattle.characters.specs.declared.Role.{Role}
use Rattle.characters.specs.declared.Role.TheVariants.{Separator, Release, Plain}
use Rattle.characters.specs.Characters.{role, is_service, has_release, is_break}
use Rattle.values.specs.Tokens.{tokens_at}
use Rattle.values.specs.Spelling.{separator_of}
use Rattle.emission_laws.specs.Emission.{nothing, emitted}
use Rattle.verbatim.specs.Verbatim.{idle, Sound}

-- what stands with the characters `n` for a byte that plays this part: the separator of its rank, or the byte
abbrev pub stand_in : Characters → Role → ℕ → ℕ
stand_in n (Separator rank) b = separator_of n (3 - rank)
stand_in n Release b = b
stand_in n Plain b = b

-- read with the characters `c`, spelled with the characters `n`
module _ (c n : Characters) where
  unfoldable pub respelled : ℕ → ℕ
  respelled b = stand_in n (role c b) b

  -- A stretch halts at a byte, before the next one: at a release character; at a byte of a value that is a service character in `n`; at a
  -- terminator before a line break; and before an empty end.
  unfoldable pub halts : ℕ → ℕ → Bool
  halts a b =
      (has_release c && eqb a c.release) || ((is_service n a && not (is_service c a)) || ((eqb a c.terminator && is_break b) || idle c a b))

  -- it halts nowhere from a place up to another; a byte follows each of its bytes
  abbrev pub Goes : List ℕ → ℕ → ℕ → Type 0
  Goes s from to = (k : ℕ) → from ≤ k → k < to → (k + 1 < length s) × (halts (get_or s k 0) (get_or s (k + 1) 0) ≡ false)

  -- so many bytes from a place on, respelled
  unfoldable pub respelling : List ℕ → ℕ → ℕ → List ℕ
  respelling s at zero = []
  respelling s at (suc count) = respelled (get_or s at 0) ∷ respelling s (at + 1) count

  -- what is emitted from a place on
  abbrev pub emitted_at : List ℕ → ℕ → List ℕ
  emitted_at s at = emitted n nothing (tokens_at c s at)

  -- The bytes from a place up to another are emitted byte for byte, respelled, and what follows them after that, in which no fault lies that did
  -- not lie in the whole.
  abbrev pub Stretch : List ℕ → ℕ → ℕ → Type 0
  Stretch s from to =
      (from ≤ to)
      × (from ≤ length s → to ≤ length s)
      × (emitted_at s from ≡ respelling s from (to - from) ++ emitted_at s to)
      × (Sound c s from → Sound c s to)

-- the byte before a place is one of a value, unless nothing is passed
abbrev pub EndsInValue : Characters → List ℕ → ℕ → ℕ → Type 0
EndsInValue c s from to = (from < to → is_service c (get_or s (to - 1) 0) ≡ false)
