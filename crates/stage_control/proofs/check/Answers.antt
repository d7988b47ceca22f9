-- `stage_control::check` meets its contract. The loop's invariant: some segments passed, of which the walk and the headers keep what
-- the next one is judged by, and the stage answers what it answers from `at` on. What is left of the input falls. Assumes nothing.
use Rattle.std.specs.Prelude.{Err}
use borrow.Author.Rules.{rules}
use mathlib.Core.Path.{◌≡◌, ◌∙◌, sym}
use native.Mathlib.Omega.{arith}
use Rattle.stage_control.proofs.Stage.{falls, passing_begun, passing_within, passing_end, passing_failed, passing_next}
use Rattle.stage_control.proofs.check.Goals as goal

pub loop-at-init : goal.loop-at-init
loop-at-init c = passing_begun c.args.c c.args.s.now c.args.start c.beginning-walk.ensures

pub true_count-requires : goal.true_count-requires
true_count-requires c =
    passing_within _ _ c.loop-at.invariant (omega arith)

pub returns-in_err-segment_control : goal.returns-in_err-segment_control
returns-in_err-segment_control c =
    let e : c.from_residual.result ≡ Err c.in_err-segment_control.field-0.0 = search rules in
    e ∙ sym (passing_failed _ _ c.loop-at.invariant c.loop-at-test.true c.kind_at-kind.ensures
    c.positions_of-p.ensures c.element_at-reference.ensures c.segment_end-next.ensures
    c.header_of-header.ensures c.true_count.ensures c.segment_control.ensures
    c.in_err-segment_control.was)

pub stepped-walk-requires : goal.stepped-walk-requires
stepped-walk-requires c =
    passing_within _ _ c.loop-at.invariant (omega arith)

pub loop-at-smaller : goal.loop-at-smaller
loop-at-smaller c =
    let inside = c.loop-at-test.true in
    falls _ _ _ inside (c.segment_end-next.ensures.2 inside)

pub loop-at-preserved : goal.loop-at-preserved
loop-at-preserved c =
    passing_next _ _ c.loop-at.invariant c.loop-at-test.true c.kind_at-kind.ensures
    c.positions_of-p.ensures c.element_at-reference.ensures c.segment_end-next.ensures
    c.header_of-header.ensures c.true_count.ensures c.segment_control.ensures
    c.in_ok-segment_control.was c.stepped-walk.ensures c.passed_header-headers.ensures

pub returns : goal.returns
returns c = sym (passing_end _ _ c.loop-at.invariant c.loop-at-test.false)
