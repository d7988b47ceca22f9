-- `value_list_text::put_records` meets its contract. The loop's invariant: what is left of the records, put from here, gives what all of
-- them, put at the start, give; the others are passed; and what is passed is not over 32,000 bytes yet. Assumes nothing.
use Rattle.std.proofs.Common.{rules}
use Prim.Native.Nat.{ℕ, ◌+◌, ◌≤◌}
use mathlib.Core.List.{List}
use mathlib.Core.Path.{◌≡◌, refl, sym, subst, ◌∙◌}
use native.Mathlib.Omega.{arith}
use Rattle.emission_laws.specs.Emission.{waiting}
use Rattle.emission_laws.proofs.Steps.{after_most}
use Rattle.operations.specs.ValueList.{listed_in}
use Rattle.value_lists.specs.Records.{entry_of}
use Rattle.value_lists.proofs.Records.{records_cut, records_end}
use Rattle.refusals.specs.Limits.{most_spelled}
use Rattle.value_list_text.specs.Composing.{record_tokens, item_of, Composes}
use Rattle.value_list_text.proofs.Composed.{value_size}
use Rattle.value_list_text.proofs.Lengths.{short_tells, short_tells_over}
use Rattle.value_list_text.proofs.Putting.{Underway, given_up, underway_start, next_fits, underway_next, too_long, end_fits, underway_end}
use Rattle.value_list_text.proofs.Rows.{Reached, record_length, listed_few, listed_next, listed_end, reached_start, next_value, long_value, reached_next}
use Rattle.value_list_text.proofs.put_records.Goals as goal

pub loop-numbers-init : goal.loop-numbers-init
loop-numbers-init g c =
    let x = c.args in
    let m = c.first_measure-m.result in
    let all : c.into_iter-numbers-iterator.result.rest.now ≡ x.table.now = search rules in (
      search rules,
      subst (λ (l : List ℕ). Underway g.S.Sink.holds g.S.Sink.room x.c (listed_in x.bytes.now x.table.now) x.buffer.now x.buffer.now m (listed_in x.bytes.now l)) (sym all)
          (underway_start g.met.S.Sink.laws x.c (listed_in x.bytes.now x.table.now) x.buffer.now c.first_measure-m.ensures),
      subst (Reached x.c x.bytes.now x.table.now m) (sym all) (reached_start x.c x.bytes.now x.table.now c.requires.0 c.first_measure-m.ensures),
    )

pub returns-in_err-short_length : goal.returns-in_err-short_length
returns-in_err-short_length g c =
    let x = c.args in
    let e = c.in-Some.ensures.steps in
    let inv = c.loop-numbers.invariant in
    let r = c.record_at-r.result in
    let rest = c.next.new.self.rest.now in
    let next = records_cut c.in-Some.numbers.now rest e.1.0 (e.1.1 ∙ inv.0) c.record_at-r.ensures in
    let over = short_tells_over r.size c.short_length.ensures c.in_err-short_length.was in
    let long = long_value x.c x.bytes.now x.table.now c.loop-numbers.m inv.2 r rest next in
    subst (Composes _ x.c (listed_in x.bytes.now x.table.now) _ _) (sym c.from_residual.ensures)
    (given_up x.c (listed_in x.bytes.now x.table.now) (omega (arith, over, long)))

pub put_record-m-requires : goal.put_record-m-requires
put_record-m-requires g c =
    let x = c.args in
    let m = c.loop-numbers.m in
    let e = c.in-Some.ensures.steps in
    let inv = c.loop-numbers.invariant in
    let r = c.record_at-r.result in
    let rest = c.next.new.self.rest.now in
    let next = records_cut c.in-Some.numbers.now rest e.1.0 (e.1.1 ∙ inv.0) c.record_at-r.ensures in
    let item = item_of x.bytes.now r in
    let short = short_tells r.size c.short_length.ensures c.in_ok-short_length.was in
    let counted : m.total + waiting m.held ≤ most_spelled = omega (arith, inv.2.gone.few, listed_few x.bytes.now x.table.now, c.requires.1, inv.1.short) in (
      next_value x.c x.bytes.now x.table.now m inv.2 r rest next,
      counted,
      next_fits g.met.S.Sink.laws x.c (listed_in x.bytes.now x.table.now) m inv.2.gone inv.1 item (listed_in x.bytes.now rest)
          (listed_next x.bytes.now _ rest r next) c.requires.2
          (omega (arith, counted, short.1, record_length item, value_size x.bytes.now (entry_of r), after_most x.c m (record_tokens item) refl)),
    )

pub returns-in_err-short_length-2 : goal.returns-in_err-short_length-2
returns-in_err-short_length-2 g c =
    let x = c.args in
    let e = c.in-Some.ensures.steps in
    let inv = c.loop-numbers.invariant in
    let r = c.record_at-r.result in
    let rest = c.next.new.self.rest.now in
    let next = records_cut c.in-Some.numbers.now rest e.1.0 (e.1.1 ∙ inv.0) c.record_at-r.ensures in
    subst (Composes _ x.c (listed_in x.bytes.now x.table.now) _ _) (sym c.from_residual-in_err-short_length-2.ensures)
    (too_long g.met.S.Sink.laws x.c (listed_in x.bytes.now x.table.now) c.loop-numbers.m inv.2.gone inv.1 (item_of x.bytes.now r)
    (listed_in x.bytes.now rest) (listed_next x.bytes.now _ rest r next) c.put_record-m.ensures.1
    (short_tells_over c.put_record-m.result.total c.short_length-in-loop-numbers.ensures c.in_err-short_length-2.was))

pub loop-numbers-preserved : goal.loop-numbers-preserved
loop-numbers-preserved g c =
    let x = c.args in
    let e = c.in-Some.ensures.steps in
    let inv = c.loop-numbers.invariant in
    let r = c.record_at-r.result in
    let rest = c.next.new.self.rest.now in
    let next = records_cut c.in-Some.numbers.now rest e.1.0 (e.1.1 ∙ inv.0) c.record_at-r.ensures in
    let short = short_tells c.put_record-m.result.total c.short_length-in-loop-numbers.ensures c.in_ok-short_length-2.was in (
      e.0 ∙ inv.0,
      underway_next g.met.S.Sink.laws x.c (listed_in x.bytes.now x.table.now) c.loop-numbers.m inv.2.gone inv.1 (item_of x.bytes.now r)
          (listed_in x.bytes.now rest) (listed_next x.bytes.now _ rest r next) c.put_record-m.ensures short.1,
      reached_next x.c x.bytes.now x.table.now c.loop-numbers.m inv.2 r rest next c.put_record-m.ensures.1,
    )

pub put_separator-requires : goal.put_separator-requires
put_separator-requires g c =
    let x = c.args in
    let e = c.in-None.ensures.steps in
    let inv = c.loop-numbers.invariant in
    let m = c.loop-numbers.m in
    let left = c.loop-numbers.numbers-iterator.rest.now in (
      end_fits g.met.S.Sink.laws x.c (listed_in x.bytes.now x.table.now) m inv.2.gone inv.1
          (listed_end x.bytes.now left (records_end left 0 (omega (arith, e.1.0, inv.0)))) c.requires.2,
      omega (arith, inv.2.gone.few, listed_few x.bytes.now x.table.now, c.requires.1, inv.1.short),
    )

pub returns : goal.returns
returns g c =
    let x = c.args in
    let e = c.in-None.ensures.steps in
    let inv = c.loop-numbers.invariant in
    let left = c.loop-numbers.numbers-iterator.rest.now in
    subst (Composes _ x.c (listed_in x.bytes.now x.table.now) _ _) (sym c.short_length-2.ensures)
    (underway_end g.met.S.Sink.laws x.c (listed_in x.bytes.now x.table.now) c.loop-numbers.m inv.2.gone inv.1
    (listed_end x.bytes.now left (records_end left 0 (omega (arith, e.1.0, inv.0)))) c.put_separator.ensures)
