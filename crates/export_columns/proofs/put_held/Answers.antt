-- `export_columns::put_held` meets its contract: the lines of elements are put, then those of repeats, then those of components.
-- Assumes nothing.
use mathlib.Core.Path.{sym, ap, subst, ◌∙◌}
use native.Mathlib.Omega.{arith}
use Rattle.storing.proofs.Putting.{room_left}
use Rattle.export_columns.specs.declared.Line.{Line}
use Rattle.export_columns.specs.Printing.{marks_text, after_marks, past_elements, past_repeats, past_held, Room}
use Rattle.export_columns.proofs.Lines.{held_none, held_nothing, elements_fit, repeats_fit, components_fit, room_less, room_elements, room_repeats}
use Rattle.export_columns.proofs.Steps.{held_put}
use Rattle.export_columns.proofs.put_held.Goals as goal

pub returns-then-h-eq0 : goal.returns-then-h-eq0
returns-then-h-eq0 g c =
    let args = c.args in
    let l = args.l in
    (sym (g.met.S.Sink.laws.none args.buffer.now l.end) ∙ ap (g.S.Sink.holds args.buffer.now l.end) (sym (held_nothing l c.if-h-eq0.true)), held_none l c.if-h-eq0.true)

pub put_marks-elements-requires : goal.put_marks-elements-requires
put_marks-elements-requires g c =
    let l = c.args.l in
    let pre = c.requires in
    (omega (arith, pre.0, elements_fit l), room_less l (omega arith) pre.1)

pub put_marks-repeats-requires : goal.put_marks-repeats-requires
put_marks-repeats-requires g c =
    let l = c.args.l in
    let pre = c.requires in
    let elements = c.put_marks-elements.ensures.1 in
    let room = room_left g.met.S.Sink.laws c.args.buffer.now l.end (marks_text 1 l.held.elements l) c.put_marks-elements.ensures.0 in (
      omega (arith, pre.0, repeats_fit l elements, room),
      subst (λ (x : Line). Room x l.held.repeats) (sym elements) (room_less (past_elements l) (omega arith) (room_elements l 0 pre.1)),
    )

pub put_marks-requires : goal.put_marks-requires
put_marks-requires g c =
    let l = c.args.l in
    let pre = c.requires in
    let repeats = c.put_marks-repeats.ensures.1 ∙ ap (after_marks 3 l.held.repeats) c.put_marks-elements.ensures.1 in
    let o = c.put_marks-elements.result in
    let before = room_left g.met.S.Sink.laws c.args.buffer.now l.end (marks_text 1 l.held.elements l) c.put_marks-elements.ensures.0 in
    let after = room_left g.met.S.Sink.laws c.put_marks-elements.new.buffer o.end (marks_text 3 l.held.repeats o) c.put_marks-repeats.ensures.0 in (
      omega (arith, pre.0, components_fit l repeats, before, after),
      subst (λ (x : Line). Room x l.held.components) (sym repeats) (room_less (past_repeats l) (omega arith) (room_repeats l 0 pre.1)),
    )

pub returns : goal.returns
unfolding past_held
returns g c =
    let args = c.args in
    let l = args.l in
    let elements = c.put_marks-elements in
    let repeats = c.put_marks-repeats in
    let components = c.put_marks in (
      held_put g.met.S.Sink.laws args.buffer.now l elements.result repeats.result elements.ensures.0 elements.ensures.1 repeats.ensures.0 repeats.ensures.1 components.ensures.0,
      components.ensures.1 ∙ ap (after_marks 2 l.held.components) (repeats.ensures.1 ∙ ap (after_marks 3 l.held.repeats) elements.ensures.1),
    )
