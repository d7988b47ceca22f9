-- `acknowledge::record_count` meets its contract. The loop's invariant: what is counted and the records of the parts from `i` on are all. Assumes nothing.
use Prim.Native.Nat.{◌+◌, ◌*◌, ◌≤◌}
use mathlib.Core.Path.{◌≡◌}
use lib.ListN.{length}
use Rattle.acknowledgement_parts.specs.Parts.{lent_in}
use Rattle.acknowledge.specs.Rows.{row, row_from}
use Rattle.acknowledge.proofs.record_count.Given as goal

abbrev pub invariant-loop-i : goal.invariant-loop-i
invariant-loop-i l = (l.n + length (row_from l.s (lent_in l.fn.lent) l.r l.i) ≡ length (row l.s (lent_in l.fn.lent) l.r)) × (l.n ≤ 32001 * l.i)
