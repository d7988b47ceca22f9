-- `read_counts::put_held` meets its contract: the records of elements are put, then those of repeats, then those of components.
-- Assumes nothing.
use Prim.Native.Nat.{◌*◌}
use mathlib.Core.Path.{sym, ap, ◌∙◌}
use native.Mathlib.Omega.{arith}
use Rattle.storing.proofs.Putting.{room_left}
use Rattle.read_counts.specs.Tally.{entry_of, marks_out, after_marks, past_held}
use Rattle.read_counts.proofs.Steps.{marks_moved, held_none}
use Rattle.read_counts.proofs.Records.{no_held, held_put}
use Rattle.read_counts.proofs.put_held.Goals as goal

pub returns-then-h-eq0 : goal.returns-then-h-eq0
returns-then-h-eq0 g c =
    let args = c.args in
    let l = args.l in
    let at = l.records * 3 in (
      sym (g.met.S.Sink.laws.none args.table.now at) ∙ ap (g.S.Sink.holds args.table.now at) (sym (no_held l c.if-h-eq0.true)),
      held_none l c.if-h-eq0.true,
    )

pub put_marks-repeats-requires : goal.put_marks-repeats-requires
put_marks-repeats-requires g c =
    let l = c.args.l in
    let put = c.put_marks-elements.ensures in
    let elements = marks_moved 1 l.held.elements l put.1 in
    let room = room_left g.met.S.Sink.laws c.args.table.now (l.records * 3) (marks_out 1 l.held.elements (entry_of l)) put.0 in
    omega (arith, elements.0, elements.1, room)

pub put_marks-requires : goal.put_marks-requires
put_marks-requires g c =
    let l = c.args.l in
    let o = c.put_marks-elements.result in
    let first = c.put_marks-elements in
    let second = c.put_marks-repeats in
    let laws = g.met.S.Sink.laws in
    let elements = marks_moved 1 l.held.elements l first.ensures.1 in
    let repeats = marks_moved 3 l.held.repeats o second.ensures.1 in
    let before = room_left laws c.args.table.now (l.records * 3) (marks_out 1 l.held.elements (entry_of l)) first.ensures.0 in
    let after = room_left laws first.new.table (o.records * 3) (marks_out 3 l.held.repeats (entry_of o)) second.ensures.0 in
    omega (arith, elements.0, elements.1, repeats.0, repeats.1, before, after)

pub returns : goal.returns
unfolding past_held
returns g c =
    let args = c.args in
    let l = args.l in
    let elements = c.put_marks-elements in
    let repeats = c.put_marks-repeats in
    let components = c.put_marks in (
      held_put g.met.S.Sink.laws args.table.now l elements.result repeats.result elements.ensures.0 elements.ensures.1 repeats.ensures.0 repeats.ensures.1 components.ensures.0,
      components.ensures.1 ∙ ap (after_marks 2 l.held.components) (repeats.ensures.1 ∙ ap (after_marks 3 l.held.repeats) elements.ensures.1),
    )
