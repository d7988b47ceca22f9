-- `stage_opening::is_advised` meets its contract: it looks for `UNA` at the start. Assumes nothing.
use Rattle.characters.specs.Characters.{advised}
use Rattle.stage_opening.proofs.is_advised.Goals as goal

pub returns : goal.returns
unfolding advised
returns c = c.tag_stands.ensures
