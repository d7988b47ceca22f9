-- `elements::value_end` meets its contract. The loop's invariant: what ends the value from the start ends it from `at`. What is left
-- of the input falls. Assumes nothing.
use mathlib.Core.Path.{refl, sym, ◌∙◌}
use native.Mathlib.Omega.{arith}
use Rattle.elements.proofs.Values.{next_as}
use Rattle.elements.proofs.value_end.Goals as goal

pub loop-next-init : goal.loop-next-init
loop-next-init c = (refl, omega arith, λ h. h)

pub loop-next-smaller : goal.loop-next-smaller
loop-next-smaller c =
    let n = next_as _ _ _ c.byte_at.ensures c.in-Byte.is in
    omega arith

pub loop-next-preserved : goal.loop-next-preserved
loop-next-preserved c =
    let n = next_as _ _ _ c.byte_at.ensures c.in-Byte.is in
    (c.loop-next.invariant.0 ∙ n.1, omega arith, λ h. omega arith)

pub returns-in-Ended : goal.returns-in-Ended
returns-in-Ended c =
    let n = next_as _ _ _ c.byte_at.ensures c.in-Ended.is in
    let i = c.loop-next.invariant in
    (n.1.0 ∙ sym i.0, omega arith, λ h. n.1.2 (i.2 h))
