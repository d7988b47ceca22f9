-- `shelf_soundness::are_zero` meets its contract. Assumes nothing.
use native.Mathlib.Omega.{arith}
use mathlib.Core.Path.{refl, sym, ◌∙◌}
use Rattle.shelf_soundness.proofs.Gathered.{zero_next, zero_end}
use Rattle.shelf_soundness.proofs.are_zero.Goals as goal

pub loop-b-init : goal.loop-b-init
loop-b-init c = refl

pub loop-b-preserved : goal.loop-b-preserved
loop-b-preserved c = let state = c.loop-b in state.invariant ∙ zero_next c.args.s.now state.found state.b-index (omega arith)

pub returns : goal.returns
returns c = let state = c.loop-b in sym (state.invariant ∙ zero_end c.args.s.now state.found state.b-index (omega arith))
