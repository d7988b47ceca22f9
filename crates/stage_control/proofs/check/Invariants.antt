-- `stage_control::check` meets its contract. The loop's invariant: some segments passed, of which the walk and the headers keep what
-- the next one is judged by, and the stage answers what it answers from `at` on. What is left of the input falls. Assumes nothing.
use Prim.Native.Nat.{◌-◌}
use lib.ListN.{length}
use Rattle.stage_control.proofs.Stage.{Passing}
use Rattle.stage_control.proofs.check.Given as goal

abbrev pub invariant-loop-at : goal.invariant-loop-at
invariant-loop-at l = Passing l.c l.s l.start l.walk l.headers l.at

abbrev pub decreases-loop-at : goal.decreases-loop-at
decreases-loop-at l = length l.s - l.at
