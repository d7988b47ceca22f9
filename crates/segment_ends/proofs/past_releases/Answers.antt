-- `segment_ends::past_releases` meets its contract. The loop's invariant: how the segment ends is told from `at` on. What is left of the input
-- falls. Assumes nothing.
use mathlib.Core.Path.{refl}
use native.Mathlib.Omega.{arith}
use borrow.Author.Tests.{not-false}
use Rattle.segment_ends.proofs.Passing.{told_here, told_releases}
use Rattle.segment_ends.proofs.past_releases.Goals as goal

pub loop-at-init : goal.loop-at-init
loop-at-init c = let x = c.args in told_here x.c x.s.now refl

pub returns-then-s-at-lt16 : goal.returns-then-s-at-lt16
returns-then-s-at-lt16 c = c.loop-at.invariant

pub returns-then-not-holds_only : goal.returns-then-not-holds_only
returns-then-not-holds_only c = c.loop-at.invariant

pub loop-at-smaller : goal.loop-at-smaller
loop-at-smaller c = omega arith

pub loop-at-preserved : goal.loop-at-preserved
loop-at-preserved c =
    let x = c.args in
    told_releases x.c x.s.now c.requires 8 c.loop-at.invariant (omega arith) (omega arith)
    (c.holds_only.ensures (not-false _ c.if-not-holds_only.false-raw))

pub returns : goal.returns
returns c = c.loop-at.invariant
