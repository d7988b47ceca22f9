-- How a segment ends, told past release characters that stand close together. Assumes nothing.
use Rattle.std.specs.Prelude.{ℕ, ◌+◌, ◌≤◌, ◌<◌, ◌≡◌, Bool, not, ◌&&◌, ◌||◌, List, eqb, get_or}
use Rattle.std.specs.declared.ops.ControlFlow.{ControlFlow}
use Rattle.std.specs.declared.ops.ControlFlow.TheVariants.{Continue, Break}
use Rattle.characters.specs.declared.Characters.{Characters}
use Rattle.values.specs.Tokens.{tokens_at}
use Rattle.release_marks.specs.Marks.{marked_at, misread, Reached}
use Rattle.scanner.specs.Scan.{scanned as ending}

-- how the segment that begins at a place ends is told from another one on
abbrev pub Told : Characters → List ℕ → ℕ → ℕ → Type 0
Told c s from to = (from ≤ to) × (ending (tokens_at c s from) ≡ ending (tokens_at c s to))

-- the bytes from a place up to another are all `b`
abbrev pub Only : ℕ → List ℕ → ℕ → ℕ → Type 0
Only b s from to = (k : ℕ) → from ≤ k → k < to → get_or s k 0 ≡ b

module _ (c : Characters) where
  -- The way on stops at a byte, where `this` and `next` say whether it and the byte after it are taken for released: it is misread, or it is a
  -- terminator that is not released.
  unfoldable pub stops : Bool → Bool → ℕ → Bool
  stops this next a = misread c this next a || (not this && eqb a c.terminator)

  -- the same of the byte four places on
  abbrev pub stops_at : List ℕ → ℕ → Bool
  stops_at s at = stops (marked_at c s at) (marked_at c s (at + 1)) (get_or s (at + 1 + 1 + 1 + 1) 0)

-- so many of the thirty-two bytes that begin four places on are reached
abbrev pub Stopped : Characters → List ℕ → ℕ → ℕ → Type 0
Stopped c s from k = (k ≤ 32) × Reached (Told c s (from + 4)) c s (marked_at c s (from + k)) (from + k + 1 + 1 + 1 + 1)

-- past a block: more bytes may be passed at a later place, or the way on stops at one
abbrev pub PastBlock : Characters → List ℕ → ℕ → ControlFlow ℕ ℕ → Type 0
PastBlock c s from (Continue to) = Told c s from to × (from < to)
PastBlock c s from (Break to) = Told c s from to
