-- `shelf_soundness::are_zero` meets its contract. The loop's invariant: all are zero exactly where no bit is gathered so far
-- and all are zero from here on. Assumes nothing.
use mathlib.Core.Path.{◌≡◌}
use lib.Dec.{eqb}
use Rattle.lists.specs.Lists.{all}
use Rattle.shelf_soundness.proofs.Gathered.{zero_from}
use Rattle.shelf_soundness.proofs.are_zero.Given as goal

abbrev pub invariant-loop-b : goal.invariant-loop-b
invariant-loop-b l = all (eqb 0) l.s ≡ zero_from l.s l.found l.b-index
