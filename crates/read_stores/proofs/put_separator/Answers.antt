-- `read_stores::put_separator` meets its contract. Assumes nothing.
use Prim.Native.Nat.{◌*◌}
use mathlib.Core.Path.{sym, ap, ◌∙◌}
use native.Mathlib.Omega.{arith}
use lib.ListN.{length}
use Rattle.read_stores.proofs.Storing.{terminator_numbers, no_numbers}
use Rattle.read_stores.proofs.put_separator.Goals as goal
use Rattle.read_stores.proofs.put_separator.Goals.{then-rank-eq0, else-rank-eq0}

pub put_record-requires : goal.put_record-requires
put_record-requires g c = omega (arith, ap length (terminator_numbers c.args.l c.args.rank c.if-rank-eq0.true))

pub returns : goal.returns
returns g c =
    let table = c.args.table.now in
    let l = c.args.l in (
      elim c.if-rank-eq0.branch [
        | then-rank-eq0 w ↦
            w.table-is ∙ w.put_record.ensures ∙ sym (ap (g.S.Sink.holds table (l.records * 3)) (terminator_numbers l c.args.rank w.if-rank-eq0.true))
        | else-rank-eq0 w ↦ w.table-is ∙ sym (g.met.S.Sink.laws.none table (l.records * 3)) ∙ sym (ap (g.S.Sink.holds table (l.records * 3)) (no_numbers l c.args.rank w.if-rank-eq0.false))
      ],
      c.with_separator.ensures,
    )
