-- `scanner::past_others` meets its contract. The loop's invariant: the bytes before `at` are others. What is left of the input falls.
-- Assumes nothing.
use native.Mathlib.Omega.{arith}
use Rattle.scanner.proofs.Scanning.{others_none, others_more}
use Rattle.scanner.proofs.past_others.Goals as goal

pub loop-at-init : goal.loop-at-init
loop-at-init c = let x = c.args in (omega arith, others_none x.a x.b x.s.now x.from)

pub returns-then-s-at-lt16 : goal.returns-then-s-at-lt16
returns-then-s-at-lt16 c = c.loop-at.invariant

pub holds_either-requires : goal.holds_either-requires
holds_either-requires c = omega arith

pub returns-then-holds_either : goal.returns-then-holds_either
returns-then-holds_either c = c.loop-at.invariant

pub loop-at-smaller : goal.loop-at-smaller
loop-at-smaller c = omega arith

pub loop-at-preserved : goal.loop-at-preserved
loop-at-preserved c =
    let x = c.args in
    let inv = c.loop-at.invariant in
    (omega arith, others_more x.a x.b x.s.now x.from inv.1 (c.holds_either.ensures c.if-holds_either.false))

pub returns : goal.returns
returns c = c.loop-at.invariant
