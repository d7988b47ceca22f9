-- `stage_opening::optional_differ` meets its contract: it makes the definition's test where both are there. Assumes nothing.
use Rattle.stage_opening.proofs.Usable.{optional_differ}
use Rattle.stage_opening.proofs.optional_differ.Goals as goal

pub returns : goal.returns
returns c = optional_differ c.args.c
