-- `ordinary_runs::put_run` meets its contract. The loop's invariant: the bytes before `at` are a run, and are put. Assumes nothing.
use Prim.Native.Nat.{max, ◌-◌, ◌≤◌}
use mathlib.Core.Path.{◌≡◌}
use lib.ListN.{length, take, drop}
use Rattle.ordinary_runs.specs.Runs.{Run}
use Rattle.ordinary_runs.proofs.put_run.Given as goal

abbrev pub invariant-loop-at : goal.invariant-loop-at
invariant-loop-at g l = Run l.calm l.s l.from l.at × (l.buffer ≡ g.S.Sink.holds l.initial.buffer l.into (take (l.at - l.from) (drop l.from l.s))) × (l.at ≤ max l.from (length l.s))
