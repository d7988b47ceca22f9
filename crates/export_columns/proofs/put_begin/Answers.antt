-- `export_columns::put_begin` meets its contract. Assumes nothing.
use mathlib.Core.Path.{sym, ap, ◌∙◌}
use native.Mathlib.Omega.{arith}
use lib.ListN.{length}
use Rattle.export_columns.proofs.Lines.{due_none, due_numbers, begun_already, begun_at}
use Rattle.export_columns.proofs.put_begin.Goals as goal

pub returns-then-l : goal.returns-then-l
returns-then-l g c =
    let args = c.args in
    let l = args.l in
    (sym (g.met.S.Sink.laws.none args.buffer.now l.end) ∙ ap (g.S.Sink.holds args.buffer.now l.end) (sym (due_none l c.if-l.true)), begun_already l c.if-l.true)

pub put_numbers-end-requires : goal.put_numbers-end-requires
put_numbers-end-requires g c = omega (arith, c.requires.0, ap length (due_numbers c.args.l c.if-l.false))

pub returns : goal.returns
returns g c =
    let args = c.args in
    let l = args.l in
    let stored = c.put_numbers-end.ensures in
    let left = c.if-l.false in
    (stored.0 ∙ ap (g.S.Sink.holds args.buffer.now l.end) (sym (due_numbers l left)), begun_at l left stored.1)
