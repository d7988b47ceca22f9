-- `stretches::halts` meets its contract: it is the definition. Assumes nothing.
use mathlib.Core.Path.{ap₂}
use mathlib.Core.Bool.{Bool, not, ◌&&◌, ◌||◌}
use lib.Dec.{eqb}
use Rattle.characters.specs.Characters.{has_release}
use Rattle.stretches.specs.Stretches.{halts}
use Rattle.stretches.proofs.halts.Goals as goal

pub returns : goal.returns
unfolding halts has_release
returns c =
    let x = c.args in
    let release = not (eqb x.c.release 32) && eqb x.a x.c.release in
    ap₂ (λ (t u : Bool). release || (t || u))
    (ap₂ (λ (t u : Bool). t && not u) c.is_service.ensures c.is_service-2.ensures)
    (ap₂ (λ (t u : Bool). (eqb x.a x.c.terminator && t) || u) c.is_break.ensures c.is_idle.ensures)
