-- What stage (4 5 6) says of the segment that begins at a place: where the next one begins, or the refusal. Assumes nothing.
use Rattle.std.specs.Prelude.{ℕ, ◌≡◌, true, false, List, length, Result, Ok, Err}
use Rattle.characters.specs.declared.Characters.{Characters}
use Rattle.refusals.specs.declared.Fault.TheVariants.{StrayRelease, UnendedSegment, BrokenTag}
use Rattle.refusals.specs.declared.Refusal.{Refusal}
use Rattle.segments.specs.Tags.{tag_rule}
use Rattle.scanner.specs.declared.Scanned.{Scanned}
use Rattle.scanner.specs.declared.Scanned.TheVariants.{Ended, Stray, Unended}
use Rattle.scanner.specs.Scan.{Scans, segment_at}

module _ (c : Characters) (s : List ℕ) (at : ℕ) where
  -- the segment that ends so is refused: with its terminator, for its tag
  abbrev pub Refuses : Scanned → Refusal → Type 0
  Refuses (Ended next) r = (tag_rule (segment_at c s at) ≡ false) × (r ≡ record { fault = BrokenTag; place = at })
  Refuses (Stray place) r = r ≡ record { fault = StrayRelease; place = place }
  Refuses Unended r = r ≡ record { fault = UnendedSegment; place = length s }

  -- it ends before that place and its tag keeps the rule, or it is refused
  abbrev pub Passes : Result ℕ Refusal → Type 0
  Passes (Ok next) = Scans c s at (Ended next) × (tag_rule (segment_at c s at) ≡ true)
  Passes (Err r) = (found : Scanned) × Scans c s at found × Refuses found r
