-- `stage_level::normal_repetition` meets its contract: it asks for version 4 where element 1 has one repeat. Assumes nothing.
use mathlib.Core.Path.{sym, ◌∙◌}
use Rattle.stage_level.proofs.Heading.{repetition_repeated, repetition_is}
use Rattle.stage_level.proofs.normal_repetition.Goals.{else-is_unrepeated-via-then-is_unrepeated+else-is_text, else-is_unrepeated-via-else-is_unrepeated}
use Rattle.stage_level.proofs.normal_repetition.Goals as goal

pub returns-then-is_text : goal.returns-then-is_text
returns-then-is_text c =
    let x = c.args in
    repetition_is x.c x.s.now x.start c.element_at-at.ensures c.component_at.ensures
    (sym c.is_unrepeated.ensures ∙ c.if-is_unrepeated.true) (sym c.if-is_text.true ∙ c.is_text.ensures)

pub returns-else-is_unrepeated : goal.returns-else-is_unrepeated
returns-else-is_unrepeated c =
    let x = c.args in
    elim c.else-is_unrepeated.branch [
      | else-is_unrepeated-via-then-is_unrepeated+else-is_text w ↦
          repetition_is x.c x.s.now x.start c.element_at-at.ensures w.component_at.ensures
          (sym c.is_unrepeated.ensures ∙ w.if-is_unrepeated.true) (sym w.if-is_text.false ∙ w.is_text.ensures)
      | else-is_unrepeated-via-else-is_unrepeated w ↦
          repetition_repeated x.c x.s.now x.start c.element_at-at.ensures (sym c.is_unrepeated.ensures ∙ w.if-is_unrepeated.false)
    ]
