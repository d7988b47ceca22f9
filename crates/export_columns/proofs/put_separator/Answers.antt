-- `export_columns::put_separator` meets its contract. Assumes nothing.
use mathlib.Core.Path.{sym, ap, ◌∙◌}
use native.Mathlib.Omega.{arith}
use lib.ListN.{length}
use Rattle.export_columns.proofs.Lines.{room_less, terminator_text, no_text, after_terminator, after_other}
use Rattle.export_columns.proofs.put_separator.Goals as goal

pub put_end-requires : goal.put_end-requires
put_end-requires g c =
    let l = c.args.l in
    let pre = c.requires in
    (omega (arith, pre.0, ap length (terminator_text l c.args.rank c.if-rank-eq0.true)), room_less l (omega arith) pre.1)

pub returns-then-rank-eq0 : goal.returns-then-rank-eq0
returns-then-rank-eq0 g c =
    let args = c.args in
    let l = args.l in
    let ended = c.put_end.ensures in
    let taken = c.if-rank-eq0.true in (
      ended.0 ∙ ap (g.S.Sink.holds args.buffer.now l.end) (sym (terminator_text l args.rank taken)),
      after_terminator l args.rank taken ended.1 c.after_separator-held.ensures,
    )

pub returns : goal.returns
returns g c =
    let args = c.args in
    let l = args.l in
    let left = c.if-rank-eq0.false in (
      sym (g.met.S.Sink.laws.none args.buffer.now l.end) ∙ ap (g.S.Sink.holds args.buffer.now l.end) (sym (no_text l args.rank left)),
      after_other l args.rank left c.after_separator-held.ensures,
    )
