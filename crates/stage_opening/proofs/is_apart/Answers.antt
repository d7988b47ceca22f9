-- `stage_opening::is_apart` meets its contract: it makes the definition's tests of those that are there. Assumes nothing.
use Rattle.stage_opening.proofs.Usable.{optional_apart}
use Rattle.stage_opening.proofs.is_apart.Goals as goal

pub returns : goal.returns
returns c = optional_apart c.args.c c.args.x
