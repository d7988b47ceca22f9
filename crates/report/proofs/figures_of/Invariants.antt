-- `report::figures_of` meets its contract. The loop's invariant: the pieces that ended before `at` are counted, and the others are those of
-- what is left. What is left of the file falls. Assumes nothing.
use Prim.Native.Nat.{◌-◌}
use lib.ListN.{length}
use Rattle.report.proofs.Going.{UpTo}
use Rattle.report.proofs.figures_of.Given as goal

abbrev pub invariant-loop-at : goal.invariant-loop-at
invariant-loop-at l = UpTo l.file l.report l.at

abbrev pub decreases-loop-at : goal.decreases-loop-at
decreases-loop-at l = length l.file - l.at
