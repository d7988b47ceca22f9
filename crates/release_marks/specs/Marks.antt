-- Bytes that are taken for released, by the four bytes before each; where such a guess proves wrong; and what is reached where it does not.
-- Assumes nothing.
use Rattle.std.specs.Prelude.{ℕ, ◌+◌, ◌-◌, ◌≡◌, Bool, true, false, not, ◌&&◌, ◌||◌, List, eqb, get_or}
use mir.Val.{bool_byte}
use Rattle.characters.specs.declared.Characters.{Characters}
use Rattle.characters.specs.declared.Role.TheVariants.{Release}
use Rattle.characters.specs.Characters.{role, is_service}

module _ (c : Characters) where
  -- the byte is the release character
  abbrev pub releases : ℕ → Bool
  releases b = eqb b c.release

  -- A byte is taken for released where one release character stands before it, or three. The four bytes before it are named from the nearest
  -- on. (Where more than four stand there this may be wrong.)
  unfoldable pub marked : ℕ → ℕ → ℕ → ℕ → Bool
  marked b d e f = releases b && (not (releases d) || (releases e && not (releases f)))

  -- the same of the byte four places on
  abbrev pub marked_at : List ℕ → ℕ → Bool
  marked_at s at = marked (get_or s (at + 1 + 1 + 1) 0) (get_or s (at + 1 + 1) 0) (get_or s (at + 1) 0) (get_or s at 0)

  -- A byte is misread, where `this` and `next` say whether it and the byte after it are taken for released: the next one is taken wrongly; or
  -- this one is taken for released and is no service character.
  unfoldable pub misread : Bool → Bool → ℕ → Bool
  misread this next a =
      ((next && not (not this && releases a)) || ((not this && releases a) && not next)) || (this && not (is_service c a))

  -- of so many bytes that begin four places on, all; or all but the last, where that releases the byte after it
  abbrev pub closed_at : List ℕ → ℕ → ℕ → ℕ
  closed_at s base count = count - bool_byte (marked_at s (base + count))

-- A place is reached where something holds of it and its byte is not released; or where that holds of the release character before it, which
-- releases it.
pub data Reached (Holds : ℕ → Type 0) (c : Characters) (s : List ℕ) : Bool → ℕ → Type 0 where
  closed : {to : ℕ} → Holds to → Reached Holds c s false to
  opened : {at to : ℕ} → Holds at → to ≡ at + 1 → role c (get_or s at 0) ≡ Release → Reached Holds c s true to
