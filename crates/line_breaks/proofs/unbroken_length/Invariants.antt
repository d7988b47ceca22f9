-- `line_breaks::unbroken_length` meets its contract. The loop's invariant: what is counted, and what is left, is what was there from the
-- start. What is left falls. Assumes nothing.
use Prim.Native.Nat.{◌+◌}
use mathlib.Core.Path.{◌≡◌}
use lib.ListN.{length, drop}
use Rattle.line_breaks.specs.Unbroken.{unbroken}
use Rattle.line_breaks.proofs.unbroken_length.Given as goal

abbrev pub invariant-loop-rest : goal.invariant-loop-rest
invariant-loop-rest l = l.count + length (unbroken l.rest) ≡ length (unbroken (drop l.start l.s))

abbrev pub decreases-loop-rest : goal.decreases-loop-rest
decreases-loop-rest l = length l.rest
