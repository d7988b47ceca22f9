-- `line_breaks::part_length` meets its contract. The loop's invariant: what is counted, and what is left from `b` on, is what was there from
-- the start; and no more is counted than bytes were passed. Assumes nothing.
use Prim.Native.Nat.{◌+◌, ◌≤◌}
use mathlib.Core.Path.{◌≡◌}
use lib.ListN.{length, drop}
use Rattle.line_breaks.specs.Unbroken.{unbroken}
use Rattle.line_breaks.proofs.part_length.Given as goal

abbrev pub invariant-loop-b : goal.invariant-loop-b
invariant-loop-b l = (l.count + length (unbroken (drop l.b-index l.part)) ≡ length (unbroken l.part)) × (l.count ≤ l.b-index)
