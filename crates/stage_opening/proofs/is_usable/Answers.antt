-- `stage_opening::is_usable` meets its contract: it makes the definition's tests in the definition's order. Assumes nothing.
use Rattle.stage_opening.proofs.Usable.{usable_tests}
use Rattle.stage_opening.proofs.is_usable.Goals as goal

pub returns : goal.returns
returns c =
    usable_tests _
    c.may_separate.ensures
    c.may_separate-2.ensures
    c.may_separate-3.ensures
    c.optional_separate.ensures
    c.differs.ensures
    c.is_apart.ensures
    c.is_apart-2.ensures
    c.is_apart-3.ensures
    c.is_apart-4.ensures
    c.optional_differ.ensures
