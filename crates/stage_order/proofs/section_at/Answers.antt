-- `stage_order::section_at` meets its contract: a UNS is read, and no other segment. Assumes nothing.
use mathlib.Core.Path.{sym, ◌∙◌}
use Rattle.stage_order.proofs.Sections.{section_read}
use Rattle.stage_order.proofs.section_at.Goals as goal

pub returns-then-is_marker : goal.returns-then-is_marker
returns-then-is_marker c =
    let x = c.args in
    c.section_named.ensures
    ∙ section_read x.c x.s.now x.at c.element_at.ensures
    ∙ simp (sym c.is_marker.ensures ∙ c.if-is_marker.true)

pub returns-else-is_marker : goal.returns-else-is_marker
returns-else-is_marker c = simp (sym c.is_marker.ensures ∙ c.if-is_marker.false)
