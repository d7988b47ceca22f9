-- `removing::lower_starts` meets its contract. The loop's invariant: the pairs of the slots passed are stored. Assumes nothing.
use mathlib.Core.Path.{◌≡◌}
use Rattle.shelf_layout.specs.Laid.{laid}
use lib.ListN.{length}
use lib.Seq.{sets}
use Rattle.shelf.proofs.Pairs.{pairs}
use Rattle.shelf.proofs.removing.lower_starts.Given as goal

abbrev pub invariant-loop-slot : goal.invariant-loop-slot
invariant-loop-slot l = (length l.s ≡ length l.initial.s) × (l.s ≡ sets l.initial.s l.l.pairs (pairs (laid l.l) l.initial.s l.removed l.slot))
