-- `surface_cases::judge` meets its contract: what `surface::hverolda_judge` promises is what the operation promises. Assumes nothing.
use mathlib.Core.Path.{sym, ap, ◌∙◌}
use borrow.Author.Rules.{rules}
use Rattle.surface.specs.Verdicts.{verdict_of}
use Rattle.surface_cases.proofs.Laid.{verdict_laid}
use Rattle.surface_cases.proofs.judge.Goals as goal

pub returns : goal.returns
returns c = λ a h. c.hverolda_judge.ensures ∙ ap verdict_of (sym h) ∙ verdict_laid a
