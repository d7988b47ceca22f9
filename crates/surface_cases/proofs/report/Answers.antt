-- `surface_cases::report` meets its contract: what `surface::hverolda_report` promises is what the operation promises. Assumes nothing.
use borrow.Author.Rules.{rules}
use Rattle.surface_cases.proofs.Said.{reported_said}
use Rattle.surface_cases.proofs.report.Goals as goal

pub returns : goal.returns
returns c = reported_said _ _ c.hverolda_report.ensures
