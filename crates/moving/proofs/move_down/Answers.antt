-- `moving::move_down` meets its contract: what was copied, and zeros behind it. Assumes nothing.
use Prim.Native.Nat.{◌-◌}
use mathlib.Core.Path.{◌∙◌}
use native.Mathlib.Omega.{arith}
use lib.ListN.{replicate}
use Rattle.moving.proofs.Steps.{copied, moved_then_zeroed}
use Rattle.moving.proofs.move_down.Goals as goal

pub returns : goal.returns
returns c =
    let x = c.args in
    let n = x.end - x.from in
    moved_then_zeroed x.s.now c.copy_within.new.self c.fill.new.buffer x.to x.from n (replicate (x.from - x.to) 0)
    (omega arith)
    (c.copy_within.ensures.after ∙ copied x.s.now x.to x.from n (omega arith) (omega arith))
    c.fill.ensures
