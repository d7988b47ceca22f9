-- What some bytes from a place on tell of how a segment ends. Assumes nothing.
use Rattle.std.specs.Prelude.{ℕ, ◌≤◌, ◌<◌, ◌≡◌, List, length}
use Rattle.characters.specs.declared.Characters.{Characters}
use Rattle.values.specs.Tokens.{tokens_at}
use Rattle.scanner.specs.declared.Scanned.TheVariants as scanned
use Rattle.scanner.specs.Scan.{scanned as ending, Scans}
use Rattle.segment_ends.specs.declared.Passed.{Passed}
use Rattle.segment_ends.specs.declared.Passed.TheVariants.{Ended, On, Other}

module _ (c : Characters) (s : List ℕ) (at : ℕ) where
  -- the segment ends before this place; or how it ends is told from this place on; or nothing is said
  abbrev pub Moves : Passed → Type 0
  Moves (Ended next) = Scans c s at (scanned.Ended next)
  Moves (On next) = (at < next) × (next ≤ length s) × (ending (tokens_at c s at) ≡ ending (tokens_at c s next))
  Moves Other = Unit {0}
