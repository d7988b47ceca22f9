-- `report::no_figures` meets its contract, which computes. Assumes nothing.
use mathlib.Core.Path.{refl}
use Rattle.mailbox_files.specs.Report.{no_figures}
use Rattle.report.proofs.no_figures.Goals as goal

pub returns : goal.returns
unfolding no_figures
returns c = refl
