-- `ordinary_controls::same_run` meets its contract. The loop's invariant: the bytes before `at` are ordinary and the same from the second place
-- on. Assumes nothing.
use Rattle.ordinary_controls.specs.Standing.{SameRun}
use Rattle.ordinary_controls.proofs.same_run.Given as goal

abbrev pub invariant-loop-at : goal.invariant-loop-at
invariant-loop-at l = SameRun l.s l.first l.second l.at
