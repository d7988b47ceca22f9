-- `stage_structure::check` meets its contract. The loop's invariant: the first stop from the start is the first stop
-- from `at` on. What is left of the input falls. Assumes nothing.
use Rattle.std.proofs.Common.{◌≡◌, Err, rules}
use mathlib.Core.Path.{refl, sym, ap, subst, ◌∙◌}
use native.Mathlib.Omega.{arith}
use Rattle.segments.specs.declared.Kind.TheVariants.{Unh}
use Rattle.segments.specs.Kinds.{is}
use Rattle.stage_structure.specs.Stopping.{Says, stopped_at}
use Rattle.stage_structure.proofs.Stops.{stage_ends, stage_passes, stage_stops, stage_goes}
use Rattle.stage_structure.proofs.check.Goals as goal

pub loop-at-init : goal.loop-at-init
loop-at-init c = refl

pub body_at-requires : goal.body_at-requires
body_at-requires c = c.requires

pub returns-in_err-at : goal.returns-in_err-at
returns-in_err-at c =
    let x = c.args in
    let state = c.loop-at in
    let says = subst (Says x.table.now x.c x.s.now c.segment_end-next.result) c.in_err-at.was c.body_at.ensures in
    let e : c.from_residual.result ≡ Err c.in_err-at.field-0.0 = search rules in
    e
    ∙ ap Err says.1
    ∙ sym
    (ap stopped_at
    (state.invariant ∙ stage_stops x.c x.s.now x.table.now state.at c.segment_end-next.result c.loop-at-test.true c.segment_end-next.ensures
    (sym (ap (is Unh) c.kind_at.ensures) ∙ sym c.is_header.ensures ∙ c.if-is_header.true) says.0))

pub loop-at-smaller-in_ok-at : goal.loop-at-smaller-in_ok-at
loop-at-smaller-in_ok-at c =
    let x = c.args in
    let state = c.loop-at in
    let says = subst (Says x.table.now x.c x.s.now c.segment_end-next.result) c.in_ok-at.was c.body_at.ensures in
    omega (arith, says.2, c.segment_end-next.ensures.2 c.loop-at-test.true, c.loop-at-test.true)

pub loop-at-preserved-in_ok-at : goal.loop-at-preserved-in_ok-at
loop-at-preserved-in_ok-at c =
    let x = c.args in
    let state = c.loop-at in
    let says = subst (Says x.table.now x.c x.s.now c.segment_end-next.result) c.in_ok-at.was c.body_at.ensures in
    state.invariant ∙ stage_goes x.c x.s.now x.table.now state.at c.segment_end-next.result c.loop-at-test.true c.segment_end-next.ensures
    (sym (ap (is Unh) c.kind_at.ensures) ∙ sym c.is_header.ensures ∙ c.if-is_header.true) _ says.0 says.1

pub loop-at-smaller : goal.loop-at-smaller
loop-at-smaller c = omega (arith, c.segment_end-next.ensures.2 c.loop-at-test.true, c.loop-at-test.true)

pub loop-at-preserved : goal.loop-at-preserved
loop-at-preserved c =
    let x = c.args in
    let state = c.loop-at in
    state.invariant ∙ stage_passes x.c x.s.now x.table.now state.at c.segment_end-next.result c.loop-at-test.true c.segment_end-next.ensures
    (sym (ap (is Unh) c.kind_at.ensures) ∙ sym c.is_header.ensures ∙ c.if-is_header.false)

pub returns : goal.returns
returns c =
    let x = c.args in
    let state = c.loop-at in
    sym (ap stopped_at (state.invariant ∙ stage_ends x.c x.s.now x.table.now state.at c.loop-at-test.false))
