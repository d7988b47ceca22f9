-- `report::report` meets its contract: a file that is too long is refused, any other is gone through. Assumes nothing.
use Rattle.report.proofs.Going.{reports_long, reports_short}
use Rattle.report.proofs.report.Goals as goal

pub returns-then-file-gt-MOST_FILE : goal.returns-then-file-gt-MOST_FILE
returns-then-file-gt-MOST_FILE c = reports_long _ c.if-file-gt-MOST_FILE.true c.failed.ensures

pub returns : goal.returns
returns c = reports_short _ c.if-file-gt-MOST_FILE.false c.figures_of.ensures
