-- `stage_opening::may_separate` meets its contract: it makes the definition's tests. Assumes nothing.
use Rattle.stage_opening.proofs.Usable.{separates_tests}
use Rattle.characters.specs.Characters.{between}
use Rattle.stage_opening.proofs.may_separate.Goals as goal

pub returns : goal.returns
unfolding between
returns c =
    separates_tests _
    c.is_ascii_graphic.ensures.value
    c.is_ascii_alphanumeric.ensures.value
