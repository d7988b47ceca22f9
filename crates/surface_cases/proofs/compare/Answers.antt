-- `surface_cases::compare` meets its contract: what `surface::hverolda_compare` promises is what the operation promises. Assumes nothing.
use mathlib.Core.Path.{sym, ap, ◌∙◌}
use borrow.Author.Rules.{rules}
use Rattle.surface.specs.Answered.{comparison_of}
use Rattle.surface_cases.proofs.Laid.{comparison_laid}
use Rattle.surface_cases.proofs.compare.Goals as goal

pub returns : goal.returns
returns c = λ a h. c.hverolda_compare.ensures ∙ ap comparison_of (sym h) ∙ comparison_laid a
