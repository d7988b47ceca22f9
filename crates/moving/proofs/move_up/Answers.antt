-- `moving::move_up` meets its contract. Assumes nothing.
use Prim.Native.Nat.{◌-◌}
use mathlib.Core.Path.{◌∙◌}
use native.Mathlib.Omega.{arith}
use Rattle.moving.proofs.Steps.{copied}
use Rattle.moving.proofs.move_up.Goals as goal

pub returns : goal.returns
returns c = let x = c.args in c.copy_within.ensures.after ∙ copied x.s.now x.to x.from (x.end - x.from) (omega arith) (omega arith)
