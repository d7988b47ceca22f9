-- `pieces::unz_ending` meets its contract. The loop's invariant: the walk from the start ends as the walk from `at` ends. What is left of
-- the input falls. Assumes nothing.
use mathlib.Core.Path.{refl, sym, subst, ◌∙◌}
use native.Mathlib.Omega.{arith}
use borrow.Author.Rules.{rules}
use Rattle.stage_segments.specs.Segment.{Passes}
use Rattle.pieces.proofs.Walking.{unz_kind, from_end, from_refused, from_next, from_unz}
use Rattle.pieces.proofs.unz_ending.Goals as goal

pub loop-at-init : goal.loop-at-init
loop-at-init c = refl

pub returns-in-Err : goal.returns-in-Err
returns-in-Err c =
    let x = c.args in
    sym (c.loop-at.invariant ∙ from_refused _ _ _ (search rules) (subst (Passes x.c x.rest.now c.loop-at.at) c.in-Err.is c.past_segment.ensures))

pub returns-then-is_unz : goal.returns-then-is_unz
returns-then-is_unz c =
    let x = c.args in
    let h = subst (Passes x.c x.rest.now c.loop-at.at) c.in-Ok.is c.past_segment.ensures in
    sym (c.loop-at.invariant ∙ from_unz _ _ _ (search rules) h.0 h.1 (unz_kind c.kind_at.ensures c.is_unz.ensures ∙ c.if-is_unz.true))

pub loop-at-smaller : goal.loop-at-smaller
loop-at-smaller c =
    let x = c.args in
    let h = subst (Passes x.c x.rest.now c.loop-at.at) c.in-Ok.is c.past_segment.ensures in
    omega arith

pub loop-at-preserved : goal.loop-at-preserved
loop-at-preserved c =
    let x = c.args in
    let h = subst (Passes x.c x.rest.now c.loop-at.at) c.in-Ok.is c.past_segment.ensures in
    c.loop-at.invariant ∙ from_next _ _ _ (search rules) h.0 h.1 (unz_kind c.kind_at.ensures c.is_unz.ensures ∙ c.if-is_unz.false)

pub returns : goal.returns
returns c = sym (c.loop-at.invariant ∙ from_end _ _ _ c.loop-at-test.false)
