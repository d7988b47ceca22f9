-- `surface::hverolda_judge_by_table` meets its contract: what is laid out is what the second Judge answered. Assumes nothing.
use mathlib.Core.Path.{ap, ◌∙◌}
use borrow.Author.Rules.{rules}
use Rattle.surface.specs.Verdicts.{verdict_of}
use Rattle.surface.proofs.hverolda_judge_by_table.Goals as goal

pub returns : goal.returns
returns c = c.verdict_of.ensures ∙ ap verdict_of c.judge_by_table.ensures
