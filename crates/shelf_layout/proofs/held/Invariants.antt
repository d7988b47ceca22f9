-- `shelf_layout::held` meets its contract. The loop's invariant: the sum is that of the slots passed. Assumes nothing.
use Prim.Native.Nat.{◌*◌, ◌≤◌}
use mathlib.Core.Path.{◌≡◌}
use Rattle.shelves.proofs.Sums.{sum_below}
use Rattle.shelf_layout.specs.Laid.{laid, kept_in}
use Rattle.shelf_layout.proofs.held.Given as goal

abbrev pub invariant-loop-slot : goal.invariant-loop-slot
invariant-loop-slot l = (l.sum ≤ l.slot * 4294967296) × (l.sum ≡ sum_below l.slot (kept_in (laid l.l) l.s))
