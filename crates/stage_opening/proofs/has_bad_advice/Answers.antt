-- `stage_opening::has_bad_advice` meets its contract: it makes the definition's tests. Assumes nothing.
use Rattle.stage_opening.proofs.Beginnings.{bad_advice_tests}
use Rattle.stage_opening.proofs.has_bad_advice.Goals as goal

pub returns : goal.returns
returns c = bad_advice_tests _ c.is_advised.ensures c.characters_of.ensures c.is_usable.ensures
