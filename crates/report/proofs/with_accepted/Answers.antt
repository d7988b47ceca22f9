-- `report::with_accepted` meets its contract: the sums fit, since the report is of few pieces. Assumes nothing.
use Rattle.report.specs.Counting.{with_accepted}
use Rattle.report.proofs.with_accepted.Goals as goal

pub returns : goal.returns
unfolding with_accepted
returns c = rw c.max.ensures
