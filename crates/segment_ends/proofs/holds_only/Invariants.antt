-- `segment_ends::holds_only` meets its contract. The loop's invariant: where only `b` was found so far, the bytes before `at` are. Assumes nothing.
use mathlib.Core.Path.{◌≡◌}
use mathlib.Core.Bool.{true}
use Rattle.segment_ends.specs.Releases.{Only}
use Rattle.segment_ends.proofs.holds_only.Given as goal

abbrev pub invariant-loop-at : goal.invariant-loop-at
invariant-loop-at l = l.only ≡ true → Only l.b l.s l.from l.at
