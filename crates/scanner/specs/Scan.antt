-- How a segment ends, over its tokens from left to right. Assumes nothing.
use Rattle.std.specs.Prelude.{ℕ, ◌≤◌, ◌<◌, ◌≡◌, List, [], ◌∷◌, Bool, false, ◌||◌, ◌⊎◌, length, get_or, eqb, leb, if◌then◌else◌}
use Rattle.lists.specs.Lists.{through, beyond}
use Rattle.characters.specs.declared.Characters.{Characters}
use Rattle.characters.specs.declared.Role.{Role}
use Rattle.characters.specs.declared.Role.TheVariants as role
use Rattle.values.specs.Tokens.{Token, byte, separator, fault, Segment, ends, tokens_at}
use Rattle.scanner.specs.declared.Scanned.{Scanned}
use Rattle.scanner.specs.declared.Scanned.TheVariants.{Ended, Stray, Unended}

-- with its terminator, and then the rest follows; or before that with a fault; or not at all
pub data Scanning : Type 0 where
  ended : (rest : List Token) → Scanning
  stray : (place : ℕ) → Scanning
  unended : Scanning

unfoldable pub scanned : List Token → Scanning
scanned [] = unended
scanned (byte b from place ∷ ts) = scanned ts
scanned (separator rank place ∷ ts) = if leb rank 0 then ended ts else scanned ts
scanned (fault place ∷ ts) = stray place

module _ (c : Characters) (s : List ℕ) (from : ℕ) where
  -- the scanner's answer says so
  abbrev pub Scans : Scanned → Type 0
  Scans (Ended next) = (scanned (tokens_at c s from) ≡ ended (tokens_at c s next)) × (from < next) × (next ≤ length s)
  Scans (Stray place) = scanned (tokens_at c s from) ≡ stray place
  Scans Unended = scanned (tokens_at c s from) ≡ unended

-- the byte that takes the next one with it, by what the release character is; the terminator where none does
abbrev pub releasing : Characters → Role → ℕ
releasing c (role.Separator rank) = c.terminator
releasing c role.Release = c.release
releasing c role.Plain = c.terminator

-- the bytes from a place up to another are there, and none of them is one of the two
abbrev pub Others : ℕ → ℕ → List ℕ → ℕ → ℕ → Type 0
Others a b s from to = (k : ℕ) → from ≤ k → k < to → (k < length s) × ((eqb (get_or s k 0) a || eqb (get_or s k 0) b) ≡ false)

-- how the segment ends is told from the next place on; or, where that is no other place, a fault there tells it
abbrev pub Passes : Characters → List ℕ → ℕ → ℕ → Type 0
Passes c s at next =
    ((next ≡ at) × (scanned (tokens_at c s at) ≡ stray at))
    ⊎ ((at < next) × (next ≤ length s) × (scanned (tokens_at c s at) ≡ scanned (tokens_at c s next)))

-- the segment that begins at a place
unfoldable pub segment_at : Characters → List ℕ → ℕ → Segment
segment_at c s at = through (ends 0) (tokens_at c s at)

-- the place after the first token that passes a test: what follows that token stands there, or nothing where none passes
abbrev pub Skips : (Token → Bool) → Characters → List ℕ → ℕ → ℕ → Type 0
Skips t c s from next =
    (tokens_at c s next ≡ beyond t (tokens_at c s from)) × (from ≤ next) × (from < length s → from < next) × (from < length s → next ≤ length s)
