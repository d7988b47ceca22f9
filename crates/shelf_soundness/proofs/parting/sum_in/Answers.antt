-- `parting::sum_in` meets its contract. Assumes nothing.
use native.Mathlib.Omega.{arith}
use mathlib.Core.Path.{ap, ◌∙◌}
use Rattle.shelf_layout.specs.Laid.{laid}
use lib.ListN.{length}
use Rattle.shelf_layout.proofs.Readings.{occupied_by}
use Rattle.shelves.specs.Layout.{total}
use Rattle.shelf_soundness.proofs.Ranges.{text_length, sum_kept, sum_free}
use Rattle.shelf_soundness.proofs.parting.sum_in.Goals as goal

pub text_of-requires : goal.text_of-requires
text_of-requires c =
    let x = c.args in
    let known = c.requires in
    let o = occupied_by x.s.now x.slot known.1 c.is_occupied.ensures c.if-is_occupied.true in
    (known.0.least, known.2, known.0.within x.slot known.2 o)

pub sum-requires : goal.sum-requires
sum-requires c =
    let x = c.args in
    let known = c.requires in
    let o = occupied_by x.s.now x.slot known.1 c.is_occupied.ensures c.if-is_occupied.true in
    let fits = known.0.within x.slot known.2 o in
    omega (arith, ap length c.text_of.ensures, text_length (laid x.l) x.s.now x.slot fits, fits, known.0.most)

pub returns-then-is_occupied : goal.returns-then-is_occupied
returns-then-is_occupied c =
    let x = c.args in
    let o = occupied_by x.s.now x.slot c.requires.1 c.is_occupied.ensures c.if-is_occupied.true in
    c.sum.ensures ∙ ap total c.text_of.ensures ∙ sum_kept (laid x.l) x.s.now x.slot o

pub returns-else-is_occupied : goal.returns-else-is_occupied
returns-else-is_occupied c =
    let x = c.args in
    sum_free (laid x.l) x.s.now x.slot (occupied_by x.s.now x.slot c.requires.1 c.is_occupied.ensures c.if-is_occupied.false)
