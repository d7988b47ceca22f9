-- `table_soundness::still_open` meets its contract. The loop's invariant: one entry on, the rooms of all groups are
-- those of the first `count`. Assumes nothing.
use Rattle.table_soundness.proofs.Rooms.{Passing}
use Rattle.table_soundness.proofs.still_open.Given as goal

abbrev pub invariant-loop-count : goal.invariant-loop-count
invariant-loop-count l = Passing l.ends l.next l.depth l.count
