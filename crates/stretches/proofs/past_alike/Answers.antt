-- `stretches::past_alike` meets its contract. The loop's invariant: the stretch passes up to `at`. What is left of the input falls.
-- Assumes nothing.
use mathlib.Core.Path.{refl, subst}
use Rattle.stretches.specs.Releases.{PassesBlock, stays}
use Rattle.stretches.proofs.Stretching.{passes_more}
use Rattle.stretches.proofs.past_alike.Goals as goal

pub loop-at-init : goal.loop-at-init
loop-at-init c n v = stays refl

pub loop-at-preserved : goal.loop-at-preserved
loop-at-preserved c n v =
    let x = c.args in
    let state = c.loop-at in
    passes_more x.c n x.s.now (state.invariant n v) ((subst (PassesBlock x.c x.s.now state.at) c.in-Continue.is c.past_block.ensures).0 n v)

pub returns-in-Break : goal.returns-in-Break
returns-in-Break c n v =
    let x = c.args in
    let state = c.loop-at in
    passes_more x.c n x.s.now (state.invariant n v) (subst (PassesBlock x.c x.s.now state.at) c.in-Break.is c.past_block.ensures n v)
