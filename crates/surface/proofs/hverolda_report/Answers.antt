-- `surface::hverolda_report` meets its contract: what is laid out is what the report answered. Assumes nothing.
use mathlib.Core.Path.{ap, ◌∙◌}
use borrow.Author.Rules.{rules}
use Rattle.surface.specs.OfMailbox.{morning_of}
use Rattle.surface.proofs.hverolda_report.Goals as goal

pub returns : goal.returns
returns c = c.morning_of.ensures ∙ ap morning_of c.report.ensures
