-- `stage_level::level_of` meets its contract: element 1 has one repeat, the name is its first value and the version its second. Assumes
-- nothing.
use mathlib.Core.Path.{sym, ◌∙◌}
use Rattle.stage_level.proofs.Heading.{level_repeated, level_other, level_ours}
use Rattle.stage_level.proofs.level_of.Goals.{else-is_unrepeated-via-then-is_unrepeated+else-is_version, else-is_unrepeated-via-else-is_unrepeated}
use Rattle.stage_level.proofs.level_of.Goals as goal

pub returns-then-is_version : goal.returns-then-is_version
returns-then-is_version c =
    let x = c.args in
    c.level_named.ensures
    ∙ level_ours x.c x.s.now x.start c.element_at-at.ensures c.component_at.ensures
    (sym c.is_unrepeated.ensures ∙ c.if-is_unrepeated.true) (sym c.is_version.ensures ∙ c.if-is_version.true)

pub returns-else-is_unrepeated : goal.returns-else-is_unrepeated
returns-else-is_unrepeated c =
    let x = c.args in
    elim c.else-is_unrepeated.branch [
      | else-is_unrepeated-via-then-is_unrepeated+else-is_version w ↦
          level_other x.c x.s.now x.start c.element_at-at.ensures w.component_at.ensures
          (sym c.is_unrepeated.ensures ∙ w.if-is_unrepeated.true) (sym w.is_version.ensures ∙ w.if-is_version.false)
      | else-is_unrepeated-via-else-is_unrepeated w ↦
          level_repeated x.c x.s.now x.start c.element_at-at.ensures (sym c.is_unrepeated.ensures ∙ w.if-is_unrepeated.false)
    ]
