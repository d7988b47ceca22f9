-- `length_bound::part_unshared` meets its contract. The loop's invariant: what is counted, and what is left from `b` on, is what was there from
-- the start; and no more is counted than bytes were passed. Assumes nothing.
use Prim.Native.Nat.{◌+◌, ◌≤◌}
use mathlib.Core.Path.{◌≡◌}
use lib.ListN.{drop}
use Rattle.length_bound.specs.Bound.{counted}
use Rattle.length_bound.specs.Unshared.{is_unshared}
use Rattle.length_bound.proofs.part_unshared.Given as goal

abbrev pub invariant-loop-b : goal.invariant-loop-b
invariant-loop-b l = (l.count + counted (is_unshared l.n l.u) (drop l.b-index l.part) ≡ counted (is_unshared l.n l.u) l.part) × (l.count ≤ l.b-index)
