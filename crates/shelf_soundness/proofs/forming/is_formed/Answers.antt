-- `forming::is_formed` meets its contract. Assumes nothing.
use mathlib.Core.Path.{ap, ◌∙◌}
use mathlib.Core.Bool.{not}
use Rattle.shelf_layout.specs.Laid.{laid}
use Rattle.shelf_layout.proofs.Readings.{occupied_by}
use Rattle.shelves.specs.Soundness.{is_normal_form}
use Rattle.shelf_soundness.proofs.Ranges.{formed_kept, formed_free}
use Rattle.shelf_soundness.proofs.forming.is_formed.Goals as goal

pub returns-then-not-is_occupied : goal.returns-then-not-is_occupied
returns-then-not-is_occupied c =
    let x = c.args in
    ap not c.if-not-is_occupied.true
    ∙ formed_free (laid x.l) x.s.now x.slot (occupied_by x.s.now x.slot c.requires.1 c.is_occupied.ensures c.if-not-is_occupied.true)

pub text_of-requires : goal.text_of-requires
text_of-requires c =
    let x = c.args in
    let known = c.requires in
    let o = occupied_by x.s.now x.slot known.1 c.is_occupied.ensures c.if-not-is_occupied.false in
    (known.0.least, known.2, known.0.within x.slot known.2 o)

pub returns-else-not-is_occupied : goal.returns-else-not-is_occupied
returns-else-not-is_occupied c =
    let x = c.args in
    let o = occupied_by x.s.now x.slot c.requires.1 c.is_occupied.ensures c.if-not-is_occupied.false in
    c.is_normal_form.ensures ∙ ap is_normal_form c.text_of.ensures ∙ formed_kept (laid x.l) x.s.now x.slot o
