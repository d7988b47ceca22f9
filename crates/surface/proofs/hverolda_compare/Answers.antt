-- `surface::hverolda_compare` meets its contract: what is laid out is what Compare answered. Assumes nothing.
use mathlib.Core.Path.{ap, ◌∙◌}
use borrow.Author.Rules.{rules}
use Rattle.surface.specs.Answered.{comparison_of}
use Rattle.surface.proofs.hverolda_compare.Goals as goal

pub returns : goal.returns
returns c = c.comparison_of.ensures ∙ ap comparison_of c.compare.ensures
