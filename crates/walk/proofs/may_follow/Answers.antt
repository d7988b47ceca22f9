-- `walk::may_follow` meets its contract: the turns of the two sections, compared. Assumes nothing.
use mathlib.Core.Path.{ap₂}
use lib.Dec.{ltb}
use Rattle.walk.proofs.may_follow.Goals as goal

pub returns : goal.returns
returns c = ap₂ ltb c.turn_of.ensures c.turn_of-2.ensures
