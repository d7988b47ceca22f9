-- `acknowledge::check_parts` meets its contract. The loop's invariant: the first record that cannot stand is the first of the parts from `i` on. Assumes nothing.
use Prim.Native.Nat.{◌*◌, ◌≤◌}
use mathlib.Core.Path.{◌≡◌}
use Rattle.acknowledgement_parts.specs.Parts.{lent_in, first_bare}
use Rattle.acknowledge.specs.Rows.{row, row_from}
use Rattle.acknowledge.proofs.check_parts.Given as goal

abbrev pub invariant-loop-i : goal.invariant-loop-i
invariant-loop-i l = (first_bare l.c 0 (row l.s (lent_in l.fn.lent) l.r) ≡ first_bare l.c l.n (row_from l.s (lent_in l.fn.lent) l.r l.i)) × (l.n ≤ 32001 * l.i)
