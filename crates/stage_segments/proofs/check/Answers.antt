-- `stage_segments::check` meets its contract. The loop's invariant: the walk from the start answers what the walk from `at` answers.
-- What is left of the input falls. Assumes nothing.
use Rattle.std.specs.Prelude.{Err}
use mathlib.Core.Path.{◌≡◌, refl, sym, ap, subst, ◌∙◌}
use native.Mathlib.Omega.{arith}
use borrow.Author.Rules.{rules}
use Rattle.refusals.specs.Refusals.{outcome}
use Rattle.stage_segments.specs.Segment.{Passes}
use Rattle.stage_segments.proofs.Stage.{worded_end, worded_refused, worded_next}
use Rattle.stage_segments.proofs.check.Goals as goal

pub loop-at-init : goal.loop-at-init
loop-at-init c = refl

pub returns-in_err-at : goal.returns-in_err-at
unfolding outcome
returns-in_err-at c =
    let x = c.args in
    let e : c.from_residual.result ≡ Err c.in_err-at.field-0.0 = search rules in
    e
    ∙ ap outcome (sym (c.loop-at.invariant ∙ worded_refused _ _ _ (search rules)
    (subst (Passes x.c x.s.now c.loop-at.at) c.in_err-at.was c.past_segment.ensures)))

pub loop-at-smaller : goal.loop-at-smaller
loop-at-smaller c =
    let x = c.args in
    let h = subst (Passes x.c x.s.now c.loop-at.at) c.in_ok-at.was c.past_segment.ensures in
    omega arith

pub loop-at-preserved : goal.loop-at-preserved
loop-at-preserved c =
    let x = c.args in
    let h = subst (Passes x.c x.s.now c.loop-at.at) c.in_ok-at.was c.past_segment.ensures in
    c.loop-at.invariant ∙ worded_next _ _ _ _ (search rules) h.0 h.1

pub returns : goal.returns
unfolding outcome
returns c = ap outcome (sym (c.loop-at.invariant ∙ worded_end _ _ _ _ c.loop-at-test.false))
