-- `plain_runs::past_plain` meets its contract. The loop's invariant: the bytes before `at` are a run. Assumes nothing.
use Prim.Native.Nat.{max, ◌≤◌}
use lib.ListN.{length}
use Rattle.plain_runs.specs.Runs.{PlainRun}
use Rattle.plain_runs.proofs.past_plain.Given as goal

abbrev pub invariant-loop-at : goal.invariant-loop-at
invariant-loop-at l = PlainRun l.c l.s l.from l.at × (l.at ≤ max l.from (length l.s))
