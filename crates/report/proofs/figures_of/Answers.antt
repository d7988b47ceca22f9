-- `report::figures_of` meets its contract. The loop's invariant: the pieces that ended before `at` are counted, and the others are those of
-- what is left. What is left of the file falls. Assumes nothing.
use Prim.Native.Nat.{◌+◌}
use mathlib.Core.Path.{sym, subst}
use native.Mathlib.Omega.{arith}
use Rattle.report.proofs.Going.{UpTo, countable, up_to_start, up_to_within, up_to_end, next_above, next_within, up_to_next}
use Rattle.report.proofs.figures_of.Goals as goal

pub loop-at-init : goal.loop-at-init
loop-at-init c = subst (λ r. UpTo c.args.file.now r 0) (sym c.no_figures-report.ensures) (up_to_start c.args.file.now)

pub overflow_add-end : goal.overflow_add-end
overflow_add-end c = omega (arith, next_within _ c.loop-at.invariant c.loop-at-test.true c.piece_end.ensures)

pub slice_bounds-judge-end : goal.slice_bounds-judge-end
slice_bounds-judge-end c = next_within _ c.loop-at.invariant c.loop-at-test.true c.piece_end.ensures

pub counted-report-requires : goal.counted-report-requires
counted-report-requires c =
    (up_to_within _ c.loop-at.invariant c.requires c.loop-at-test.true, countable _ c.judge.result c.judge.ensures)

pub loop-at-smaller : goal.loop-at-smaller
loop-at-smaller c = omega (arith, next_above _ c.loop-at.invariant c.loop-at-test.true c.piece_end.ensures)

pub loop-at-preserved : goal.loop-at-preserved
loop-at-preserved c =
    subst (λ r. UpTo c.args.file.now r (c.loop-at.at + c.piece_end.result)) (sym c.counted-report.ensures)
    (up_to_next _ c.loop-at.invariant c.loop-at-test.true c.piece_end.ensures c.judge.result c.judge.ensures)

pub returns : goal.returns
returns c = up_to_end _ c.loop-at.invariant c.loop-at-test.false
