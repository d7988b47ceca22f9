-- `stage_order::section_named` meets its contract: it asks for one component, and for the two names. Assumes nothing.
use mathlib.Core.Path.{sym, ◌∙◌}
use borrow.Author.Tests.{not-true, not-false}
use Rattle.control_elements.specs.Sections.{section_named}
use Rattle.stage_order.specs.Ordering.{section_from}
use Rattle.stage_order.proofs.section_named.Goals as goal

pub returns-then-not-is_alone : goal.returns-then-not-is_alone
unfolding section_from
returns-then-not-is_alone c = simp (sym c.is_alone.ensures ∙ not-true _ c.if-not-is_alone.true-raw)

pub returns-then-is_text : goal.returns-then-is_text
unfolding section_from section_named
returns-then-is_text c =
    simp (
      sym c.is_alone.ensures ∙ not-false _ c.if-not-is_alone.false-raw,
      sym c.is_text.ensures ∙ c.if-is_text.true,
    )

pub returns-then-is_text-2 : goal.returns-then-is_text-2
unfolding section_from section_named
returns-then-is_text-2 c =
    simp (
      sym c.is_alone.ensures
          ∙ not-false _ c.if-not-is_alone.false-raw,
      sym c.is_text.ensures ∙ c.if-is_text.false,
      sym c.is_text-2.ensures ∙ c.if-is_text-2.true,
    )

pub returns : goal.returns
unfolding section_from section_named
returns c =
    simp (
      sym c.is_alone.ensures
          ∙ not-false _ c.if-not-is_alone.false-raw,
      sym c.is_text.ensures ∙ c.if-is_text.false,
      sym c.is_text-2.ensures ∙ c.if-is_text-2.false,
    )
