-- The value that tokens begin with: its bytes, and what ends it. Assumes nothing.
use Rattle.std.specs.Prelude.{ℕ, ◌≤◌, ◌<◌, ◌≡◌, List, [], ◌∷◌, length, if◌then◌else◌}
use Rattle.lists.specs.Lists.{through}
use Rattle.characters.specs.declared.Characters.{Characters}
use Rattle.values.specs.Tokens.{Token, ends, tokens_at}
use Rattle.values.specs.Values.{bytes_of}
use Rattle.elements.specs.declared.NextByte.{NextByte}
use Rattle.elements.specs.declared.NextByte.TheVariants.{Byte, Ended}

-- its bytes, without their release characters
unfoldable pub value_in : List Token → List ℕ
value_in ts = bytes_of (through (ends 3) ts)

-- the tokens from what ends it on
unfoldable pub value_end : List Token → List Token
value_end [] = []
value_end (t ∷ ts) = if ends 3 t then t ∷ ts else value_end ts

module _ (c : Characters) (s : List ℕ) (from : ℕ) where
  -- the place of what ends the value that begins at a place, or the end of the input
  abbrev pub EndsAt : ℕ → Type 0
  EndsAt r = (tokens_at c s r ≡ value_end (tokens_at c s from)) × (from ≤ r) × (from ≤ length s → r ≤ length s)

  -- the next byte of the value that begins at a place, or its end
  abbrev pub NextAt : NextByte → Type 0
  NextAt (Byte b next) =
      (value_in (tokens_at c s from) ≡ b ∷ value_in (tokens_at c s next))
      × (value_end (tokens_at c s from) ≡ value_end (tokens_at c s next))
      × (from < next)
      × (next ≤ length s)
  NextAt (Ended place) = (value_in (tokens_at c s from) ≡ []) × EndsAt place
