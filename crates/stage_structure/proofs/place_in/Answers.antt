-- `stage_structure::place_in` meets its contract. Assumes nothing.
use Rattle.stage_structure.proofs.Stops.{begins_here, nothing_begins}
use Rattle.stage_structure.proofs.place_in.Goals as goal

pub returns-then-at-s : goal.returns-then-at-s
returns-then-at-s c = let x = c.args in begins_here x.c x.s.now x.at c.if-at-s.true

pub returns-else-at-s : goal.returns-else-at-s
returns-else-at-s c = let x = c.args in nothing_begins x.c x.s.now x.at c.if-at-s.false
