-- `parting::sums_of` meets its contract. The loop's invariant: the sums of the slots passed are there. Assumes nothing.
-- one more is there
use Prim.Native.Nat.{ℕ, ◌<◌}
use mathlib.Core.Path.{◌≡◌}
use Rattle.shelf_layout.specs.Laid.{laid}
use lib.ListN.{length, get_or}
use Rattle.shelf_soundness.specs.Clauses.{sum_in}
use Rattle.shelf_soundness.proofs.parting.sums_of.Given as goal

abbrev pub invariant-loop-slot : goal.invariant-loop-slot
invariant-loop-slot l = (length l.sums ≡ 64) × ((k : ℕ) → k < l.slot → get_or l.sums k 0 ≡ sum_in (laid l.l) l.s k)
