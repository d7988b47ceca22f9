-- `clear_parts::past_clear` meets its contract. The loop's invariant: nothing is idle up to `at`. What is left of the input falls. Assumes
-- nothing.
use Prim.Native.Nat.{◌-◌, ◌≤◌}
use lib.ListN.{length}
use Rattle.clear_parts.specs.Clear.{Clear}
use Rattle.clear_parts.proofs.past_clear.Given as goal

abbrev pub invariant-loop-at : goal.invariant-loop-at
invariant-loop-at l = (l.from ≤ l.at) × Clear l.c l.s l.from l.at

abbrev pub decreases-loop-at : goal.decreases-loop-at
decreases-loop-at l = length l.s - l.at
