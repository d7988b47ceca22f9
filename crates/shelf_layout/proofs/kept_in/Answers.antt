-- `shelf_layout::kept_in` meets its contract. Assumes nothing.
use native.Mathlib.Omega.{arith}
use mathlib.Core.Path.{◌∙◌}
use Rattle.shelf_layout.proofs.Readings.{occupied_by, keeps_some, keeps_none}
use Rattle.shelf_layout.specs.Laid.{laid}
use Rattle.shelf_layout.proofs.kept_in.Goals as goal

pub returns-then-is_occupied : goal.returns-then-is_occupied
returns-then-is_occupied c =
    let x = c.args in
    let o = occupied_by x.s.now x.slot c.requires.2 c.is_occupied.ensures c.if-is_occupied.true in
    (c.length_of.ensures.0 ∙ keeps_some (laid x.l) x.s.now x.slot o, c.length_of.ensures.1)

pub returns-else-is_occupied : goal.returns-else-is_occupied
returns-else-is_occupied c =
    let x = c.args in
    let o = occupied_by x.s.now x.slot c.requires.2 c.is_occupied.ensures c.if-is_occupied.false in
    (keeps_none (laid x.l) x.s.now x.slot o, omega arith)
