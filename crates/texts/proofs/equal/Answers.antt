-- `texts::equal` meets its contract. Assumes nothing.
use mathlib.Core.Path.{◌∙◌}
use Rattle.texts.proofs.Bytes.{compared}
use Rattle.texts.proofs.equal.Goals as goal

pub returns : goal.returns
returns c = c.eq.ensures ∙ compared c.args.a.now c.args.b.now
