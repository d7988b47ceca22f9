-- `pieces::unz_ending` meets its contract. The loop's invariant: the walk from the start ends as the walk from `at` ends. What is left of
-- the input falls. Assumes nothing.
use Prim.Native.Nat.{◌-◌}
use mathlib.Core.Path.{◌≡◌}
use lib.ListN.{length}
use Rattle.pieces.specs.Walk.{ending_from}
use Rattle.pieces.proofs.unz_ending.Given as goal

abbrev pub invariant-loop-at : goal.invariant-loop-at
invariant-loop-at l = ending_from l.c l.rest l.start ≡ ending_from l.c l.rest l.at

abbrev pub decreases-loop-at : goal.decreases-loop-at
decreases-loop-at l = length l.rest - l.at
