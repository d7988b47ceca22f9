-- `shelf_carrying::shift_starts` meets its contract. The loop's invariant: the pairs of the slots passed are stored.
-- Assumes nothing.
use mathlib.Core.Path.{◌≡◌}
use lib.ListN.{length}
use lib.Seq.{sets}
use Rattle.shelf_layout.specs.Laid.{laid}
use Rattle.shelf_carrying.specs.Parts.{shifted_pairs}
use Rattle.shelf_carrying.proofs.shift_starts.Given as goal

abbrev pub invariant-loop-slot : goal.invariant-loop-slot
invariant-loop-slot l = (length l.s ≡ length l.initial.s) × (l.s ≡ sets l.initial.s l.to.pairs (shifted_pairs (laid l.from) (laid l.to) l.map l.initial.s l.slot))
