-- `stage_opening::optional_separate` meets its contract: each is none or may separate. Assumes nothing.
use Rattle.stage_opening.proofs.Usable.{optional_separate}
use Rattle.stage_opening.proofs.optional_separate.Goals as goal

pub returns : goal.returns
returns c = optional_separate c.args.c c.may_separate.ensures c.may_separate-2.ensures
