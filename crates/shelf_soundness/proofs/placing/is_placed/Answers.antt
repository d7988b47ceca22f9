-- `placing::is_placed` meets its contract. Assumes nothing.
use Rattle.shelf_layout.specs.Laid.{laid}
use Rattle.shelf_layout.proofs.Readings.{occupied_by}
use Rattle.shelf_soundness.proofs.Ranges.{placed_kept, placed_free}
use Rattle.shelf_soundness.proofs.placing.is_placed.Goals as goal

pub returns-then-is_occupied : goal.returns-then-is_occupied
returns-then-is_occupied c =
    let x = c.args in
    let known = c.requires in
    let o = occupied_by x.s.now x.slot known.2 c.is_occupied.ensures c.if-is_occupied.true in
    placed_kept (laid x.l) x.s.now x.slot o c.base.ensures c.start_of-start.ensures.0 c.length_of-length.ensures.0 known.3

pub returns-else-is_occupied : goal.returns-else-is_occupied
returns-else-is_occupied c =
    let x = c.args in
    let o = occupied_by x.s.now x.slot c.requires.2 c.is_occupied.ensures c.if-is_occupied.false in
    placed_free (laid x.l) x.s.now x.slot o c.start_of-start.ensures.0 c.length_of-length.ensures.0
