-- `lent_elements::put_list` meets its contract. The loop's invariant: the records before the k-th are put, and what is left of them, put from
-- the place reached, gives what all of them, put at the start, give. Assumes nothing.
use Rattle.std.proofs.Common.{rules}
use mathlib.Core.Path.{◌≡◌, sym, subst, ◌∙◌}
use native.Mathlib.Omega.{arith}
use lib.ListN.{length, take, drop, length-drop}
use lib.Seq.{take_all}
use Prim.Native.Nat.{◌-◌}
use Rattle.value_lists.proofs.Records.{records_cut, records_end}
use Rattle.lent_elements.proofs.Records.{Placed, record_most, first_value_lem, first_fits, first_placed, next_value, next_fits, next_placed, placed_over, placed_done}
use Rattle.lent_elements.proofs.put_list.Goals as goal

pub first_of-requires : goal.first_of-requires
first_of-requires g c = c.requires.1

pub put_record-n-requires : goal.put_record-n-requires
put_record-n-requires g c =
    let x = c.args in
    let bytes = x.list.bytes.now in
    let table = x.list.table.now in
    let known = c.requires in
    let d = c.first_of.ensures in
    let laws = g.met.S.Sink.laws in (
      first_value_lem bytes table known.0 known.1 d,
      omega (arith, known.3, known.4),
      first_fits bytes table laws x.c x.m known.0 known.1 d known.5 (omega (arith, known.3, known.4, record_most x.c x.m bytes c.first_of.result)),
    )

pub loop-numbers-init : goal.loop-numbers-init
loop-numbers-init g c =
    let x = c.args in
    let known = c.requires in
    let table = x.list.table.now in
    let cut : c.into_iter-numbers-iterator.result.rest.now ≡ take (length table - 3) (drop 3 table) = search rules in
    let all : c.into_iter-numbers-iterator.result.rest.now ≡ drop 3 table = cut ∙ take_all (length table - 3) (drop 3 table) (omega (arith, length-drop 3 table)) in (
      search rules,
      subst (Placed x.list.bytes.now x.list.table.now g.S.Sink.holds g.S.Sink.room x.c x.m x.buffer.now c.put_record-n.new.buffer c.put_record-n.result) (sym all)
          (first_placed x.list.bytes.now x.list.table.now g.met.S.Sink.laws x.c x.m known.0 known.1 c.first_of.ensures c.put_record-n.ensures),
    )

pub returns-then-n-gt-MOST_BYTES : goal.returns-then-n-gt-MOST_BYTES
returns-then-n-gt-MOST_BYTES g c =
    let x = c.args in
    placed_over x.list.bytes.now x.list.table.now g.met.S.Sink.laws x.c x.m c.loop-numbers.n c.loop-numbers.invariant.1 c.if-n-gt-MOST_BYTES.true

pub put_record-n-requires-in-loop-numbers : goal.put_record-n-requires-in-loop-numbers
put_record-n-requires-in-loop-numbers g c =
    let x = c.args in
    let bytes = x.list.bytes.now in
    let table = x.list.table.now in
    let known = c.requires in
    let n = c.loop-numbers.n in
    let e = c.in-Some.ensures.steps in
    let inv = c.loop-numbers.invariant in
    let r = c.record_at.result in
    let rest = c.next.new.self.rest.now in
    let next = records_cut c.in-Some.numbers.now rest e.1.0 (e.1.1 ∙ inv.0) c.record_at.ensures in
    let laws = g.met.S.Sink.laws in (
      next_value bytes table laws x.c x.m n inv.1 r rest next,
      omega (arith, inv.1.few, c.if-n-gt-MOST_BYTES.false, known.4),
      next_fits bytes table laws x.c x.m n inv.1 r rest next known.5 (omega (arith, inv.1.few, c.if-n-gt-MOST_BYTES.false, known.4, record_most x.c n bytes r)),
    )

pub loop-numbers-preserved : goal.loop-numbers-preserved
loop-numbers-preserved g c =
    let x = c.args in
    let e = c.in-Some.ensures.steps in
    let inv = c.loop-numbers.invariant in
    let r = c.record_at.result in
    let rest = c.next.new.self.rest.now in
    let next = records_cut c.in-Some.numbers.now rest e.1.0 (e.1.1 ∙ inv.0) c.record_at.ensures in
    (e.0 ∙ inv.0, next_placed x.list.bytes.now x.list.table.now g.met.S.Sink.laws x.c x.m c.loop-numbers.n inv.1 r rest next c.put_record-n-in-loop-numbers.ensures)

pub returns : goal.returns
returns g c =
    let x = c.args in
    let e = c.in-None.ensures.steps in
    let inv = c.loop-numbers.invariant in
    placed_done x.list.bytes.now x.list.table.now g.met.S.Sink.laws x.c x.m c.loop-numbers.n inv.1 (records_end c.loop-numbers.numbers-iterator.rest.now 0 (omega (arith, e.1.0, inv.0)))
