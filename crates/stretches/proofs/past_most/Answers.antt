-- `stretches::past_most` meets its contract: where the characters are alike the stretch passes over release characters too. Assumes nothing.
use Prim.Native.Nat.{◌-◌}
use mathlib.Core.Path.{sym, ◌∙◌}
use native.Mathlib.Omega.{arith}
use Rattle.stretches.proofs.Stretching.{goes_passes}
use Rattle.stretches.proofs.past_most.Goals as goal

pub returns-then-are_alike : goal.returns-then-are_alike
returns-then-are_alike c =
    let x = c.args in
    c.past_alike.ensures x.n (sym c.are_alike.ensures ∙ c.if-are_alike.true)

pub returns : goal.returns
returns c =
    let x = c.args in
    let (l, g) = c.past_blocks.ensures in
    goes_passes x.c x.n x.s.now x.from (c.past_blocks.result - x.from) (omega arith) g
