-- `clear_parts::past_clear` meets its contract. The loop's invariant: nothing is idle up to `at`. What is left of the input falls. Assumes
-- nothing.
use native.Mathlib.Omega.{arith}
use Rattle.clear_parts.proofs.Parts.{clear_none, clear_more, clear_less}
use Rattle.clear_parts.proofs.past_clear.Goals as goal

pub loop-at-init : goal.loop-at-init
loop-at-init c = (omega arith, clear_none c.args.c c.args.s.now)

pub returns-then-s-at-le64 : goal.returns-then-s-at-le64
returns-then-s-at-le64 c = c.loop-at.invariant

pub before_idle-count-requires : goal.before_idle-count-requires
before_idle-count-requires c = omega arith

pub returns-then-count-lt64 : goal.returns-then-count-lt64
returns-then-count-lt64 c =
    let x = c.args in
    let (l, g) = c.loop-at.invariant in
    (omega arith, clear_more x.c x.s.now g c.before_idle-count.ensures.1)

pub loop-at-smaller : goal.loop-at-smaller
loop-at-smaller c = omega arith

pub loop-at-preserved : goal.loop-at-preserved
loop-at-preserved c =
    let x = c.args in
    let (l, g) = c.loop-at.invariant in
    (omega arith, clear_more x.c x.s.now g (clear_less x.c x.s.now (omega arith) c.before_idle-count.ensures.1))

pub returns : goal.returns
returns c = c.loop-at.invariant
