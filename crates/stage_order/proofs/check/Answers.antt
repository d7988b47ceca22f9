-- `stage_order::check` meets its contract. The loop's invariant: the walk from its beginning over all segments answers as this walk
-- over those from `at` on; and no counter is higher than `at`, since each segment takes a byte. What is left of the input falls. Assumes nothing.
use mathlib.Core.Path.{sym, ap, subst⁻¹, ◌∙◌}
use mathlib.Core.List.{[]}
use native.Mathlib.Omega.{arith}
use borrow.Author.Tests.{not-true, not-false}
use Rattle.segments.specs.declared.Section.TheVariants.{None}
use Rattle.segments.specs.declared.Walk.{Walk}
use Rattle.walk_laws.specs.Walking.{Within}
use Rattle.walk_laws.proofs.Counts.{within_more, within_step, within_begun}
use Rattle.walk_laws.proofs.Walks.{within_over}
use Rattle.stage_order.proofs.GoesOn.{goes_at, goes_over, goes_end, goes_wrong, goes_next}
use Rattle.stage_order.proofs.check.Goals as goal

pub loop-at-init : goal.loop-at-init
loop-at-init c =
    let args = c.args in (
      subst⁻¹ (Within args.start) c.beginning-walk.ensures (within_over None [] (omega arith)),
      ap (λ (w : Walk). goes_at args.c args.s.now w args.start) (sym c.beginning-walk.ensures),
    )

pub returns-then-not-fits : goal.returns-then-not-fits
returns-then-not-fits c =
    let state = c.loop-at in
    let args = c.args in
    c.failed.ensures
    ∙ sym
    (goes_wrong args.c args.s.now state.walk state.at c.kind_at-kind.ensures c.section_at-section.ensures
    c.loop-at-test.true
    (sym c.fits.ensures ∙ not-true _ c.if-not-fits.true-raw))
    ∙ sym state.invariant.1
    ∙ goes_over _ _

pub stepped-requires : goal.stepped-requires
stepped-requires c =
    let state = c.loop-at in within_more state.walk (omega arith) state.invariant.0

pub loop-at-smaller : goal.loop-at-smaller
loop-at-smaller c = omega (arith, c.segment_end-at.ensures.2 c.loop-at-test.true)

pub loop-at-preserved : goal.loop-at-preserved
loop-at-preserved c =
    let state = c.loop-at in
    let args = c.args in
    let kind = c.kind_at-kind in (
      subst⁻¹ (Within c.segment_end-at.result) c.begun-walk.ensures
          (within_begun c.stepped.result c.section_at-section.result
          (subst⁻¹ (Within c.segment_end-at.result) c.stepped.ensures
          (within_step state.walk kind.result (c.segment_end-at.ensures.2 c.loop-at-test.true) state.invariant.0))),
      state.invariant.1
          ∙ goes_next args.c args.s.now state.walk state.at kind.ensures c.section_at-section.ensures c.loop-at-test.true
          c.segment_end-at.result
          (sym c.fits.ensures ∙ not-false _ c.if-not-fits.false-raw)
          c.stepped.ensures
          c.begun-walk.ensures
          c.segment_end-at.ensures,
    )

pub returns : goal.returns
returns c =
    let state = c.loop-at in
    let args = c.args in
    c.complete.ensures
    ∙ sym (goes_end args.c args.s.now state.walk state.at c.loop-at-test.false)
    ∙ sym state.invariant.1
    ∙ goes_over _ _
