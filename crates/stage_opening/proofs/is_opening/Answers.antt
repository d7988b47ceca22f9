-- `stage_opening::is_opening` meets its contract: `UNB` stands where the body begins, and the element separator after it. Assumes nothing.
use Rattle.stage_opening.proofs.Beginnings.{opens_tests}
use Rattle.stage_opening.proofs.is_opening.Goals as goal

pub returns : goal.returns
returns c =
    opens_tests _
    c.body_start-start.ensures
    c.characters_of-c.ensures
    c.tag_stands.ensures
    c.byte_stands.ensures
