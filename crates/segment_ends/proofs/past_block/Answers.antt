-- `segment_ends::past_block` meets its contract: all bytes of a block are passed, or those up to where release characters stand and then these.
-- Assumes nothing.
use native.Mathlib.Omega.{arith}
use Rattle.segment_ends.proofs.Passing.{told_more}
use Rattle.segment_ends.proofs.past_block.Goals as goal

pub returns-then-s-to : goal.returns-then-s-to
returns-then-s-to c = c.before_stop-count.ensures.1

pub returns-then-to-next : goal.returns-then-to-next
returns-then-to-next c =
    let x = c.args in
    (told_more x.c x.s.now c.before_stop-count.ensures.1 c.past_taken-next.ensures, omega (arith, c.if-to-next.true))

pub returns : goal.returns
returns c =
    let x = c.args in
    told_more x.c x.s.now c.before_stop-count.ensures.1 c.past_taken-next.ensures
