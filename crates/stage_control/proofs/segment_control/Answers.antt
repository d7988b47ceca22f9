-- `stage_control::segment_control` meets its contract: it asks whether there is a reference, whether it is one,
-- and whether there is a count; what a trailer says is left to `trailer_control`. Assumes nothing.
use mathlib.Core.Path.{sym, ◌∙◌}
use borrow.Author.Tests.{not-true, not-false, eq-eqb, ne_eqb}
use Rattle.stage_control.specs.Controlling.{controlled_by}
use Rattle.stage_control.proofs.segment_control.Goals as goal

pub returns-then-p-eq0 : goal.returns-then-p-eq0
unfolding controlled_by
returns-then-p-eq0 c = rw (eq-eqb _ 0 c.if-p-eq0.true)

pub returns-then-not-is_reference : goal.returns-then-not-is_reference
unfolding controlled_by
returns-then-not-is_reference c =
    rw (
      ne_eqb _ 0 c.if-p-eq0.false,
      sym c.field_at.ensures,
      sym c.is_reference.ensures ∙ not-true _ c.if-not-is_reference.true-raw,
    )
    c.failed.ensures

pub returns-then-p-eq0-2 : goal.returns-then-p-eq0-2
unfolding controlled_by
returns-then-p-eq0-2 c =
    rw (
      ne_eqb _ 0 c.if-p-eq0.false,
      sym c.field_at.ensures,
      sym c.is_reference.ensures ∙ not-false _ c.if-not-is_reference.false-raw,
      eq-eqb _ 0 c.if-p-eq0-2.true,
    )

pub returns : goal.returns
unfolding controlled_by
returns c =
    rw (
      ne_eqb _ 0 c.if-p-eq0.false,
      sym c.field_at.ensures,
      sym c.is_reference.ensures ∙ not-false _ c.if-not-is_reference.false-raw,
      ne_eqb _ 0 c.if-p-eq0-2.false,
      sym c.element_at-counted.ensures.0,
    )
    c.trailer_control.ensures
