-- `segment_ends::past_taken` meets its contract. The loop's invariant: how the segment ends is told from `at` on. What is left of the input falls.
-- Assumes nothing.
use mathlib.Core.Path.{sym, ◌∙◌}
use native.Mathlib.Omega.{arith}
use borrow.Author.Tests.{not-false}
use Rattle.segment_ends.proofs.Passing.{told_taken}
use Rattle.segment_ends.proofs.past_taken.Goals as goal

pub loop-at-init : goal.loop-at-init
loop-at-init c = c.past_releases-at.ensures

pub returns-then-s-next : goal.returns-then-s-next
returns-then-s-next c = c.loop-at.invariant

pub returns-then-s-at : goal.returns-then-s-at
returns-then-s-at c = c.loop-at.invariant

pub returns-then-not-is_taken : goal.returns-then-not-is_taken
returns-then-not-is_taken c = c.loop-at.invariant

pub loop-at-smaller : goal.loop-at-smaller
loop-at-smaller c = omega arith

pub loop-at-preserved : goal.loop-at-preserved
loop-at-preserved c =
    let x = c.args in
    let inv = c.loop-at.invariant in
    let asked = c.is_taken in
    told_taken x.c x.s.now c.requires inv (omega arith) c.if-s-at.false
    (sym asked.ensures ∙ not-false asked.result c.if-not-is_taken.false-raw)

pub returns : goal.returns
returns c = c.loop-at.invariant
