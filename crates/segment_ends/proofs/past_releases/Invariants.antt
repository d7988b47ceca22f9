-- `segment_ends::past_releases` meets its contract. The loop's invariant: how the segment ends is told from `at` on. What is left of the input
-- falls. Assumes nothing.
use Prim.Native.Nat.{◌-◌}
use lib.ListN.{length}
use Rattle.segment_ends.specs.Releases.{Told}
use Rattle.segment_ends.proofs.past_releases.Given as goal

abbrev pub invariant-loop-at : goal.invariant-loop-at
invariant-loop-at l = Told l.c l.s l.from l.at

abbrev pub decreases-loop-at : goal.decreases-loop-at
decreases-loop-at l = length l.s - l.at
