-- `verbatim::is_idle` meets its contract: it is the definition. Assumes nothing.
use Prim.Native.Nat.{ℕ}
use mathlib.Core.Path.{ap}
use mathlib.Core.Bool.{Bool, ◌&&◌, ◌||◌}
use lib.Dec.{eqb}
use Rattle.verbatim.specs.Verbatim.{idle}
use Rattle.verbatim.proofs.is_idle.Goals as goal

pub returns : goal.returns
unfolding idle
returns c =
    let args = c.args in
    let own = args.c in
    let a = args.a in
    let b = args.b in
    ap (asked (eqb a own.component) (eqb a own.element) (eqb b own.element) (eqb b own.terminator) a b) c.requires
  where
    -- by the byte that ends a repeat
    asked : (component element next last : Bool) → ℕ → ℕ → ℕ → Bool
    asked component element next last a b r =
        (eqb b r && component) || ((next && (component || eqb a r)) || (last && ((component || eqb a r) || element)))
