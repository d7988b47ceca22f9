-- `length_bound::count_unshared` meets its contract. The loop's invariant: what is counted, and what is left, is what was there from the
-- start. What is left falls. Assumes nothing.
use Prim.Native.Nat.{◌+◌}
use mathlib.Core.Path.{◌≡◌}
use lib.ListN.{length}
use Rattle.length_bound.specs.Bound.{counted}
use Rattle.length_bound.specs.Unshared.{is_unshared}
use Rattle.length_bound.proofs.count_unshared.Given as goal

abbrev pub invariant-loop-rest : goal.invariant-loop-rest
invariant-loop-rest l = l.count + counted (is_unshared l.n l.u) l.rest ≡ counted (is_unshared l.n l.u) l.s

abbrev pub decreases-loop-rest : goal.decreases-loop-rest
decreases-loop-rest l = length l.rest
