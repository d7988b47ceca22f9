-- `stage_opening::differs` meets its contract: it makes the definition's tests. Assumes nothing.
use Rattle.stage_opening.proofs.Usable.{differ_tests}
use Rattle.stage_opening.proofs.differs.Goals as goal

pub returns : goal.returns
returns c = differ_tests c.args.x c.args.a c.args.b c.args.c
