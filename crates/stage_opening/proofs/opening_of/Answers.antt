-- `stage_opening::opening_of` meets its contract: it makes the tests of the two stages in their order. Assumes nothing.
use mathlib.Core.Path.{sym, ◌∙◌}
use Rattle.stage_opening.proofs.Openings.{opening_unusable, opening_missing, opening_passed}
use Rattle.stage_opening.proofs.opening_of.Goals as goal

pub returns-then-has_bad_advice : goal.returns-then-has_bad_advice
returns-then-has_bad_advice c = c.failed.ensures ∙ opening_unusable _ (sym c.has_bad_advice.ensures ∙ c.if-has_bad_advice.true)

pub returns-then-is_opening : goal.returns-then-is_opening
returns-then-is_opening c =
    opening_passed _ (sym c.has_bad_advice.ensures ∙ c.if-has_bad_advice.false)
    (sym c.is_opening.ensures ∙ c.if-is_opening.true)
    c.characters_of-characters.ensures
    c.body_start-start.ensures
    c.beginning-walk.ensures

pub returns : goal.returns
returns c =
    c.failed-2.ensures
    ∙ opening_missing _ (sym c.has_bad_advice.ensures ∙ c.if-has_bad_advice.false)
    (sym c.is_opening.ensures ∙ c.if-is_opening.false)
    c.body_start-start.ensures
