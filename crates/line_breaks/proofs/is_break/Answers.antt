-- `line_breaks::is_break` meets its contract: it makes the definition's two tests. Assumes nothing.
use mathlib.Core.Bool.{or-false}
use Rattle.lists.specs.Lists.{member}
use Rattle.characters.specs.Characters.{is_break}
use Rattle.line_breaks.proofs.is_break.Goals as goal

pub returns : goal.returns
unfolding is_break member
returns c = simp or-false
