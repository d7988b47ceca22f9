-- `elements::past_sixteens` meets its contract. The loop's invariant: the element that is looked for from the start is the one that is looked for
-- from `at`. What is left of the input falls. Assumes nothing.
use Prim.Native.Nat.{◌-◌}
use lib.ListN.{length}
use Rattle.elements.specs.Sixteen.{GoesOn}
use Rattle.elements.proofs.past_sixteens.Given as goal

abbrev pub invariant-loop-at : goal.invariant-loop-at
invariant-loop-at l = GoesOn l.c l.s l.from l.position (record { at = l.at; left = l.left })

abbrev pub decreases-loop-at : goal.decreases-loop-at
decreases-loop-at l = length l.s - l.at
