-- `clean_walk::clean_walk` meets its contract. The loop's invariant: each of the three stages answers from the start what it answers from
-- `at` on, with what the walk and the headers keep. What is left of the input falls. Assumes nothing.
use mathlib.Core.Path.{sym, ◌∙◌, subst}
use native.Mathlib.Omega.{arith}
use Rattle.scanner.proofs.Scanning.{scans_as}
use Rattle.ordinary_controls.proofs.Standing.{told_if}
use Rattle.clean_walk.specs.Clean.{Steps, Cleans}
use Rattle.clean_walk.proofs.Going.{going_begun, going_within, going_next, going_end}
use Rattle.clean_walk.proofs.clean_walk.Goals as goal

pub loop-at-init : goal.loop-at-init
loop-at-init c = let args = c.args in going_begun args.c args.s.now args.start c.beginning.ensures

pub segment_ended-requires : goal.segment_ended-requires
segment_ended-requires c = c.releasing-release.ensures

pub returns-in_default : goal.returns-in_default
returns-in_default c = tt

pub step_at-requires : goal.step_at-requires
step_at-requires c = (
  c.loop-at-test.true,
  c.is_quiet-calm.ensures,
  going_within _ _ _ c.loop-at.invariant (omega arith),
)

pub loop-at-smaller : goal.loop-at-smaller
loop-at-smaller c =
    let h = scans_as _ _ _ c.segment_ended.ensures c.in-Ended.is in
    omega arith

pub loop-at-preserved : goal.loop-at-preserved
loop-at-preserved c =
    let state = c.loop-at in
    let args = c.args in
    going_next args.c args.s.now args.start state.invariant c.loop-at-test.true
    (scans_as _ _ _ c.segment_ended.ensures c.in-Ended.is)
    (subst (Steps args.c args.s.now state.at state.kept.walk state.kept.headers) c.in_ok-kept.was c.step_at.ensures)

pub returns : goal.returns
returns c =
    let state = c.loop-at in
    let args = c.args in
    told_if (Cleans args.c args.s.now args.start) tt c.is_complete.result state.kept.walk
    (λ e. going_end _ _ _ state.invariant c.loop-at-test.false (sym c.is_complete.ensures ∙ e))
    c.then_some.ensures
