-- `segment_ends::pass_marked` meets its contract. The loop's invariant: how the segment ends is told from `at` on. What is left of the input falls.
-- Assumes nothing.
use Prim.Native.Nat.{◌-◌}
use mathlib.Core.Path.{refl, sym, ap, ◌∙◌}
use native.Mathlib.Omega.{arith}
use lib.ListN.{length}
use lib.Dec.{ltb}
use borrow.Author.Tests.{ltb-false}
use Rattle.lists.proofs.Texts.{or_none_left, or_none_right}
use Rattle.scanner.specs.Scan.{releasing}
use Rattle.segment_ends.proofs.Passing.{goes_far, moves_from, told_here, told_more}
use Rattle.segment_ends.proofs.pass_marked.Goals as goal

pub loop-at-init : goal.loop-at-init
loop-at-init c = let x = c.args in told_here x.c x.s.now refl

pub pass_token-requires : goal.pass_token-requires
pass_token-requires c = sym (ap (releasing c.args.c) c.requires)

pub returns-then-at-s : goal.returns-then-at-s
returns-then-at-s c =
    let x = c.args in
    let loop = c.loop-at in
    let others = c.up_to_either.ensures in
    let far = goes_far x.c x.s.now loop.at (sym (ap (releasing x.c) c.requires)) others.0 others.1 in
    moves_from x.c x.s.now x.from (omega (arith, loop.invariant.0, others.0)) (loop.invariant.1 ∙ far) c.pass_token.result c.pass_token.ensures

pub past_block-requires : goal.past_block-requires
past_block-requires c =
    let x = c.args in
    let at = c.loop-at.at in
    let near = ltb at 4 in
    let last = ltb (length x.s.now - at) 32 in (
      ltb-false at 4 (or_none_left near last c.if-at-s.false),
      omega (arith, ltb-false (length x.s.now - at) 32 (or_none_right near last c.if-at-s.false)),
      c.requires,
    )

pub pass_token-requires-in-Break : goal.pass_token-requires-in-Break
pass_token-requires-in-Break c =
    sym (ap (releasing c.args.c) c.requires)

pub returns-in-Break : goal.returns-in-Break
returns-in-Break c =
    let x = c.args in
    let told = told_more x.c x.s.now c.loop-at.invariant c.in-Break.ensures in
    moves_from x.c x.s.now x.from told.0 told.1 c.pass_token-in-Break.result c.pass_token-in-Break.ensures

pub loop-at-smaller : goal.loop-at-smaller
loop-at-smaller c = omega (arith, c.in-Continue.ensures.1)

pub loop-at-preserved : goal.loop-at-preserved
loop-at-preserved c =
    let x = c.args in
    told_more x.c x.s.now c.loop-at.invariant c.in-Continue.ensures.0

pub returns : goal.returns
returns c = tt
