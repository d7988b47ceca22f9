-- `stretches::past_alike` meets its contract. The loop's invariant: the stretch passes up to `at`. What is left of the input falls.
-- Assumes nothing.
use Prim.Native.Nat.{◌-◌}
use lib.ListN.{length}
use Rattle.stretches.specs.Releases.{PassesAlike}
use Rattle.stretches.proofs.past_alike.Given as goal

abbrev pub invariant-loop-at : goal.invariant-loop-at
invariant-loop-at l = PassesAlike l.c l.s l.from l.at

abbrev pub decreases-loop-at : goal.decreases-loop-at
decreases-loop-at l = length l.s - l.at
