-- `acknowledge::put_parts` meets its contract. The loop's invariant: what is left of the parts, put from the place reached, gives what all of them give; and what is put is not over 32,000 bytes yet. Assumes nothing.
use mathlib.Core.Path.{sym, subst}
use native.Mathlib.Omega.{arith}
use Rattle.acknowledgement_parts.specs.declared.Part.{Part}
use Rattle.acknowledgement_parts.specs.Parts.{lent_in, part_items, Puttable}
use Rattle.lent_elements.specs.Leading.{Advances}
use Rattle.value_list_text.specs.Composing.{Composes}
use Rattle.value_list_text.proofs.Lengths.{short_tells, short_tells_over}
use Rattle.acknowledge.specs.Rows.{row}
use Rattle.acknowledge.proofs.Rows.{underway_start, part_ready, underway_next, underway_over, end_fits, underway_end}
use Rattle.acknowledge.proofs.put_parts.Goals as goal

pub loop-i-init : goal.loop-i-init
loop-i-init g c =
    let x = c.args in
    underway_start g.met.S.Sink.laws x.c x.s.now (lent_in x.lent.now) x.r x.output.now c.requires.0.1 c.first_measure-m.ensures

pub put_part-m-requires : goal.put_part-m-requires
put_part-m-requires g c =
    let x = c.args in
    let known = c.requires.0.0 in
    let i = c.loop-i.i in
    let h = c.loop-i-test.true in
    subst (λ (p : Part). Puttable g.S.Sink.room x.c c.loop-i.output x.s.now x.r.characters (lent_in x.lent.now) p c.loop-i.m) (sym c.part_at.ensures)
    (part_ready g.met.S.Sink.laws x.c x.s.now (lent_in x.lent.now) x.r x.output.now c.loop-i.invariant h (known.fine i h) known.short c.requires.1)

pub returns-in_err-short_length : goal.returns-in_err-short_length
returns-in_err-short_length g c =
    let x = c.args in
    let i = c.loop-i.i in
    let h = c.loop-i-test.true in
    let past = subst (λ (p : Part). Advances g.S.Sink.holds x.c c.loop-i.output c.loop-i.m (part_items x.s.now x.r.characters (lent_in x.lent.now) p) c.put_part-m.new.buffer c.put_part-m.result) c.part_at.ensures c.put_part-m.ensures in
    subst (Composes _ x.c (row x.s.now (lent_in x.lent.now) x.r) _ _) (sym c.from_residual.ensures)
    (underway_over g.met.S.Sink.laws x.c x.s.now (lent_in x.lent.now) x.r x.output.now c.loop-i.invariant h (c.requires.0.0.fine i h) past
    (short_tells_over _ c.short_length.ensures c.in_err-short_length.was))

pub loop-i-preserved : goal.loop-i-preserved
loop-i-preserved g c =
    let x = c.args in
    let i = c.loop-i.i in
    let h = c.loop-i-test.true in
    let past = subst (λ (p : Part). Advances g.S.Sink.holds x.c c.loop-i.output c.loop-i.m (part_items x.s.now x.r.characters (lent_in x.lent.now) p) c.put_part-m.new.buffer c.put_part-m.result) c.part_at.ensures c.put_part-m.ensures in
    underway_next g.met.S.Sink.laws x.c x.s.now (lent_in x.lent.now) x.r x.output.now c.loop-i.invariant h (c.requires.0.0.fine i h) past (short_tells _ c.short_length.ensures c.in_ok-short_length.was).1

pub put_separator-requires : goal.put_separator-requires
put_separator-requires g c =
    let x = c.args in
    let inv = c.loop-i.invariant in
    (end_fits g.met.S.Sink.laws x.c x.s.now (lent_in x.lent.now) x.r x.output.now inv c.loop-i-test.false c.requires.1, omega (arith, inv.reached.few, inv.short))

pub returns : goal.returns
returns g c =
    let x = c.args in
    subst (Composes _ x.c (row x.s.now (lent_in x.lent.now) x.r) _ _) (sym c.short_length-2.ensures)
    (underway_end g.met.S.Sink.laws x.c x.s.now (lent_in x.lent.now) x.r x.output.now c.loop-i.invariant c.loop-i-test.false c.put_separator.ensures)
