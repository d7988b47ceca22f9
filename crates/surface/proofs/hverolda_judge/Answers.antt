-- `surface::hverolda_judge` meets its contract: what is laid out is what Judge answered. Assumes nothing.
use mathlib.Core.Path.{ap, ◌∙◌}
use borrow.Author.Rules.{rules}
use Rattle.surface.specs.Verdicts.{verdict_of}
use Rattle.surface.proofs.hverolda_judge.Goals as goal

pub returns : goal.returns
returns c = c.verdict_of.ensures ∙ ap verdict_of c.judge.ensures
