-- `segment_ends::stops` meets its contract: it is the definition. Assumes nothing.
use mathlib.Core.Path.{ap}
use mathlib.Core.Bool.{Bool, not, ◌&&◌, ◌||◌}
use lib.Dec.{eqb}
use Rattle.segment_ends.specs.Releases.{stops}
use Rattle.segment_ends.proofs.stops.Goals as goal

pub returns : goal.returns
unfolding stops
returns c = let x = c.args in ap (λ (t : Bool). t || (not x.this && eqb x.a x.c.terminator)) c.misread.ensures
