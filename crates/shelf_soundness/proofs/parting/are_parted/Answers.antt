-- `parting::are_parted` meets its contract. Assumes nothing.
use mathlib.Core.Path.{ap, ◌∙◌}
use mathlib.Core.Bool.{not}
use Rattle.shelf_layout.specs.Laid.{laid}
use Rattle.shelf_layout.proofs.Readings.{occupied_by}
use Rattle.shelf_soundness.proofs.Ranges.{parted_free, parted_near, parted_far}
use Rattle.shelf_soundness.proofs.parting.are_parted.Goals as goal

pub returns-then-not-is_occupied : goal.returns-then-not-is_occupied
returns-then-not-is_occupied c =
    let x = c.args in
    ap not c.if-not-is_occupied.true
    ∙ parted_free (laid x.l) x.s.now x.one x.other (occupied_by x.s.now x.other c.requires.1 c.is_occupied.ensures c.if-not-is_occupied.true)

pub are_same-requires : goal.are_same-requires
are_same-requires c =
    let x = c.args in
    let known = c.requires in
    let o = occupied_by x.s.now x.other known.1 c.is_occupied.ensures c.if-not-is_occupied.false in
    (known.0, known.2, known.3, (known.4, o))

pub returns-then-are_apart : goal.returns-then-are_apart
returns-then-are_apart c =
    let x = c.args in
    let o = occupied_by x.s.now x.other c.requires.1 c.is_occupied.ensures c.if-not-is_occupied.false in
    parted_far (laid x.l) x.s.now x.one x.other o c.are_apart.ensures c.if-are_apart.true c.are_same.ensures

pub returns-else-are_apart : goal.returns-else-are_apart
returns-else-are_apart c =
    let x = c.args in
    let o = occupied_by x.s.now x.other c.requires.1 c.is_occupied.ensures c.if-not-is_occupied.false in
    c.if-are_apart.false ∙ parted_near (laid x.l) x.s.now x.one x.other o c.are_apart.ensures c.if-are_apart.false
