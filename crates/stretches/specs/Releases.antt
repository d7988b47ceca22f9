-- Release characters in a stretch: with the same service characters a release character stands, and the service character that it takes.
-- Assumes nothing.
use Rattle.std.specs.Prelude.{ℕ, ◌+◌, ◌≤◌, ◌<◌, ◌≡◌, Bool, true, false, not, ◌&&◌, ◌||◌, List, eqb, length, get_or}
use Rattle.std.specs.declared.ops.ControlFlow.{ControlFlow}
use Rattle.std.specs.declared.ops.ControlFlow.TheVariants.{Continue, Break}
use Rattle.characters.specs.declared.Characters.{Characters}
use Rattle.characters.specs.declared.Role.TheVariants.{Release}
use Rattle.characters.specs.Characters.{role, is_service, has_release, is_break}
use Rattle.release_marks.specs.Marks.{marked_at, misread, Reached}
use Rattle.verbatim.specs.Verbatim.{idle}
use Rattle.stretches.specs.Stretches.{halts}

-- the five service characters are the same; there is a release character, and it is no separator
unfoldable pub alike : Characters → Characters → Bool
alike c n =
    (eqb c.component n.component && (eqb c.element n.element && (eqb c.repetition n.repetition
    && (eqb c.terminator n.terminator && eqb c.release n.release))))
    && (has_release c
    && not (eqb c.release c.terminator || (eqb c.release c.element || (eqb c.release c.repetition || eqb c.release c.component))))

-- A stretch passes from a place up to another: over bytes at which it does not halt, each before another byte; and, where the characters are
-- alike, over release characters together with the service characters that they take.
pub data Passes (c n : Characters) (s : List ℕ) (from : ℕ) : ℕ → Type 0 where
  stays : {to : ℕ} → to ≡ from → Passes c n s from to
  alone : {at to : ℕ} → Passes c n s from at → to ≡ at + 1 → at + 1 < length s → halts c n (get_or s at 0) (get_or s (at + 1) 0) ≡ false
      → Passes c n s from to
  together : {at to : ℕ} → Passes c n s from at → to ≡ at + 1 + 1 → at + 1 < length s → alike c n ≡ true → role c (get_or s at 0) ≡ Release
      → is_service c (get_or s (at + 1) 0) ≡ true → Passes c n s from to

-- it passes with all characters that are alike
abbrev pub PassesAlike : Characters → List ℕ → ℕ → ℕ → Type 0
PassesAlike c s from to = (n : Characters) → alike c n ≡ true → Passes c n s from to

-- ---- thirty-two bytes at once

module _ (c : Characters) where
  -- A stretch stops at a byte, before the next one, which are taken for released or not: where it is misread; and where it is not released, as a
  -- stretch halts.
  unfoldable pub stops : Bool → Bool → ℕ → ℕ → Bool
  stops this next a b = misread c this next a || (not this && ((eqb a c.terminator && is_break b) || idle c a b))

  -- the same of the byte four places on
  abbrev pub stops_at : List ℕ → ℕ → Bool
  stops_at s at = stops (marked_at c s at) (marked_at c s (at + 1)) (get_or s (at + 1 + 1 + 1 + 1) 0) (get_or s (at + 1 + 1 + 1 + 1 + 1) 0)

-- so many of the thirty-two bytes that begin four places on are reached
abbrev pub Stopped : Characters → List ℕ → ℕ → ℕ → Type 0
Stopped c s from k =
    (k ≤ 32)
    × ((n : Characters) → alike c n ≡ true → Reached (Passes c n s (from + 4)) c s (marked_at c s (from + k)) (from + k + 1 + 1 + 1 + 1))

-- from a place up to another, which lies behind it where the stretch goes on
abbrev pub PassesBlock : Characters → List ℕ → ℕ → ControlFlow ℕ ℕ → Type 0
PassesBlock c s from (Continue to) = PassesAlike c s from to × (from < to)
PassesBlock c s from (Break to) = PassesAlike c s from to
