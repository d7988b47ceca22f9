-- A part of a body that is measured. Assumes nothing.
use Rattle.std.specs.Prelude.{ℕ, ◌+◌, ◌-◌, ◌*◌, ◌≤◌, ◌<◌, ◌≡◌, List, length}
use Rattle.characters.specs.declared.Characters.{Characters}
use Rattle.stretches.specs.declared.Reached.{Reached}
use Rattle.verbatim.specs.Verbatim.{Sound}
use Rattle.stretches.specs.Stretches.{emitted_at}

-- What is emitted from a place on is measured up to another one: with what is emitted from there on the text has the same length. Two bytes are
-- spelled for each byte passed, at most. No fault lies after it that does not lie in the whole.
pub record Measured (c n : Characters) (s : List ℕ) (from r : Reached) : Type 0 where
  pub counted : from.total + length (emitted_at c n s from.at) ≡ r.total + length (emitted_at c n s r.at)
  pub low : r.total ≤ from.total + 2 * (r.at - from.at)
  pub on : from.at ≤ r.at
  pub inside : from.at ≤ length s → r.at ≤ length s
  pub sound : Sound c s from.at → Sound c s r.at

-- something is passed, unless nothing is left
abbrev pub Further : List ℕ → Reached → Reached → Type 0
Further s from r = from.at < length s → from.at < r.at
