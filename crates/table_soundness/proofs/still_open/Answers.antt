-- `table_soundness::still_open` meets its contract. The loop's invariant: one entry on, the rooms of all groups are
-- those of the first `count`. Assumes nothing.
use native.Mathlib.Omega.{arith}
use Rattle.table_soundness.proofs.Rooms.{passing_start, passing_next, passing_open, passing_end}
use Rattle.table_soundness.proofs.still_open.Goals as goal

pub loop-count-init : goal.loop-count-init
loop-count-init c = passing_start _ _ _ c.requires.1

pub returns-then-next-ends : goal.returns-then-next-ends
returns-then-next-ends c = let p = passing_open _ _ _ _ c.loop-count.invariant c.if-next-ends.true in record { rooms = p.0; nested = p.1; fewer = p.2 }

pub loop-count-preserved : goal.loop-count-preserved
loop-count-preserved c = passing_next _ _ _ _ c.loop-count.invariant c.loop-count-test.true c.if-next-ends.false

pub returns : goal.returns
returns c = let p = passing_end _ _ _ _ c.loop-count.invariant (omega arith) in record { rooms = p.0; nested = p.1; fewer = p.2 }
