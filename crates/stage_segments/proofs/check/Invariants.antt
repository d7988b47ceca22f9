-- `stage_segments::check` meets its contract. The loop's invariant: the walk from the start answers what the walk from `at` answers.
-- What is left of the input falls. Assumes nothing.
use Prim.Native.Nat.{◌-◌}
use mathlib.Core.Path.{◌≡◌}
use lib.ListN.{length}
use Rattle.values.specs.Tokens.{tokens_at}
use Rattle.stage_walks.specs.Walks.{worded}
use Rattle.stage_segments.proofs.check.Given as goal

abbrev pub invariant-loop-at : goal.invariant-loop-at
invariant-loop-at l = worded (length l.s) (tokens_at l.c l.s l.start) ≡ worded (length l.s) (tokens_at l.c l.s l.at)

abbrev pub decreases-loop-at : goal.decreases-loop-at
decreases-loop-at l = length l.s - l.at
