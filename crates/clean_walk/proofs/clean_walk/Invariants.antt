-- `clean_walk::clean_walk` meets its contract. The loop's invariant: each of the three stages answers from the start what it answers from
-- `at` on, with what the walk and the headers keep. What is left of the input falls. Assumes nothing.
use Prim.Native.Nat.{◌-◌}
use lib.ListN.{length}
use Rattle.clean_walk.proofs.Going.{Going}
use Rattle.clean_walk.proofs.clean_walk.Given as goal

abbrev pub invariant-loop-at : goal.invariant-loop-at
invariant-loop-at l = Going l.c l.s l.start l.kept.walk l.kept.headers l.at

abbrev pub decreases-loop-at : goal.decreases-loop-at
decreases-loop-at l = length l.s - l.at
