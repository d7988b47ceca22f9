-- `stretches::past_blocks` meets its contract. The loop's invariant: the stretch goes on up to `at`. What is left of the input falls.
-- Assumes nothing.
use native.Mathlib.Omega.{arith}
use Rattle.stretches.proofs.Steps.{goes_none, goes_more, goes_block}
use Rattle.stretches.proofs.past_blocks.Goals as goal

pub loop-at-init : goal.loop-at-init
loop-at-init c = let x = c.args in (omega arith, goes_none x.c x.n x.s.now x.from)

pub returns-then-count-lt32 : goal.returns-then-count-lt32
returns-then-count-lt32 c =
    let x = c.args in
    let inv = c.loop-at.invariant in
    (omega arith, goes_more x.c x.n x.s.now inv.1 c.before_halt-count.ensures.1)

pub loop-at-smaller : goal.loop-at-smaller
loop-at-smaller c = omega arith

pub loop-at-preserved : goal.loop-at-preserved
loop-at-preserved c =
    let x = c.args in
    let inv = c.loop-at.invariant in
    (omega arith, goes_block x.c x.n x.s.now inv.1 c.before_halt-count.ensures.1 (omega arith))
