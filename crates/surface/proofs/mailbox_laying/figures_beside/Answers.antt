-- `mailbox_laying::figures_beside` meets its contract; an array of 14 numbers has 14. Assumes nothing.
use mathlib.Core.Path.{refl}
use borrow.Author.Rules.{rules}
use Rattle.surface.specs.OfMailbox.{beside}
use Rattle.surface.proofs.mailbox_laying.figures_beside.Goals as goal

pub returns : goal.returns
unfolding beside
returns c = (refl, search rules)
