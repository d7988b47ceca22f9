-- `elements::past_sixteens` meets its contract. The loop's invariant: the element that is looked for from the start is the one that is looked for
-- from `at`. What is left of the input falls. Assumes nothing.
use mathlib.Core.Path.{refl, ◌∙◌}
use native.Mathlib.Omega.{arith}
use Rattle.elements.proofs.past_sixteens.Goals as goal

pub loop-at-init : goal.loop-at-init
loop-at-init c = (refl, λ h. h)

pub returns-then-s-at-lt16 : goal.returns-then-s-at-lt16
returns-then-s-at-lt16 c = c.loop-at.invariant

pub separators-passed-requires : goal.separators-passed-requires
separators-passed-requires c = omega arith

pub returns-then-passed-ge15 : goal.returns-then-passed-ge15
returns-then-passed-ge15 c = c.loop-at.invariant

pub overflow_add-at : goal.overflow_add-at
overflow_add-at c = omega arith

pub overflow_sub-left : goal.overflow_sub-left
overflow_sub-left c = omega arith

pub loop-at-smaller : goal.loop-at-smaller
loop-at-smaller c = omega arith

pub loop-at-preserved : goal.loop-at-preserved
loop-at-preserved c =
    let loop = c.loop-at in
    let on = c.separators-passed.ensures (omega arith) loop.left (omega arith) in
    (loop.invariant.0 ∙ rw c.from-left.ensures on, λ h. omega arith)

pub returns : goal.returns
returns c = c.loop-at.invariant
