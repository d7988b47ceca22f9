-- `stretches::stops` meets its contract: it is the definition. Assumes nothing.
use mathlib.Core.Path.{ap₂}
use mathlib.Core.Bool.{Bool, not, ◌&&◌, ◌||◌}
use lib.Dec.{eqb}
use Rattle.stretches.specs.Releases.{stops}
use Rattle.stretches.proofs.stops.Goals as goal

pub returns : goal.returns
unfolding stops
returns c =
    let x = c.args in
    ap₂ (λ (t u : Bool). t || (not x.this && u))
    c.misread.ensures
    (ap₂ (λ (t u : Bool). (eqb x.a x.c.terminator && t) || u) c.is_break.ensures c.is_idle.ensures)
