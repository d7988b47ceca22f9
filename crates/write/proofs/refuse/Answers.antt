-- `write::refuse` meets its contract. Assumes nothing.
use mathlib.Core.Path.{refl, ◌∙◌}
use Rattle.write.proofs.Writing.{all_zero}
use Rattle.write.proofs.refuse.Goals as goal

pub returns : goal.returns
returns c = (refl, c.fill.ensures ∙ all_zero c.args.output.now)
