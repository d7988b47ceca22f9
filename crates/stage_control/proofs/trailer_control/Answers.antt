-- `stage_control::trailer_control` meets its contract: it asks the three tests, one after another. Assumes nothing.
use mathlib.Core.Path.{sym, ◌∙◌}
use borrow.Author.Tests.{not-true, not-false, eq-eqb, ne_eqb}
use Rattle.stage_control.specs.Controlling.{trailer_by}
use Rattle.stage_control.proofs.trailer_control.Goals as goal

pub returns-then-not-is_count : goal.returns-then-not-is_count
unfolding trailer_by
returns-then-not-is_count c =
    rw (sym c.field_at-field.ensures, sym c.is_count.ensures ∙ not-true _ c.if-not-is_count.true-raw)
    c.failed.ensures

pub returns-then-not-same_value : goal.returns-then-not-same_value
unfolding trailer_by
returns-then-not-same_value c =
    rw (
      sym c.field_at-field.ensures,
      sym c.is_count.ensures ∙ not-false _ c.if-not-is_count.false-raw,
      sym c.same_value.ensures ∙ not-true _ c.if-not-same_value.true-raw,
    )
    c.failed-then-not-same_value.ensures

pub returns-then-field-count : goal.returns-then-field-count
unfolding trailer_by
returns-then-field-count c =
    rw (
      sym c.field_at-field.ensures,
      sym c.is_count.ensures ∙ not-false _ c.if-not-is_count.false-raw,
      sym c.same_value.ensures ∙ not-false _ c.if-not-same_value.false-raw,
      ne_eqb _ _ c.if-field-count.true,
    )
    c.failed-then-field-count.ensures

pub returns : goal.returns
unfolding trailer_by
returns c =
    rw (
      sym c.field_at-field.ensures,
      sym c.is_count.ensures ∙ not-false _ c.if-not-is_count.false-raw,
      sym c.same_value.ensures ∙ not-false _ c.if-not-same_value.false-raw,
      eq-eqb _ _ c.if-field-count.false,
    )
