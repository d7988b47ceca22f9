-- `texts::begins` meets its contract. Assumes nothing.
use mathlib.Core.Path.{◌∙◌}
use Rattle.texts.proofs.Fronts.{begins_is}
use Rattle.texts.proofs.begins.Goals as goal

pub returns : goal.returns
returns c = c.starts_with.ensures.value ∙ begins_is c.args.front.now c.args.s.now
