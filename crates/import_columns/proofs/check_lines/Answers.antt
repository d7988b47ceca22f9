-- `import_columns::check_lines` meets its contract. The loop's invariant: what the text has is what it has from here on. What is left of the text falls. Assumes nothing.
use mathlib.Core.Path.{◌∙◌}
use native.Mathlib.Omega.{arith}
use Rattle.import_columns.proofs.Checks.{checking_start, checking_other, checking_idle, checking_ahead, checking_next, checking_told}
use Rattle.import_columns.proofs.check_lines.Goals as goal

pub loop-at-init : goal.loop-at-init
loop-at-init c = checking_start c.args.s.now c.origin-p.ensures

pub line_at-requires : goal.line_at-requires
line_at-requires c = let g = c.loop-at.invariant in (g.behind, omega (arith, c.loop-at-test.true), g.within)

pub returns-in_err-l : goal.returns-in_err-l
returns-in_err-l c =
    let state = c.loop-at in
    c.from_residual.ensures ∙ checking_other c.args.s.now state.at state.p state.n state.least state.invariant c.loop-at-test.true c.line_at.ensures c.in_err-l.was

pub returns-then-rank_of-least : goal.returns-then-rank_of-least
returns-then-rank_of-least c =
    let state = c.loop-at in
    checking_idle c.args.s.now state.at state.p state.n state.least state.invariant c.in_ok-l.l (c.line_at.ensures.some c.in_ok-l.l c.in_ok-l.was)
    (omega (arith, c.if-rank_of-least.true, c.rank_of.ensures))

pub overflow_add-n : goal.overflow_add-n
overflow_add-n c = omega (arith, c.loop-at.invariant.few, c.loop-at-test.true)

pub overflow_add-at : goal.overflow_add-at
overflow_add-at c =
    let state = c.loop-at in
    let ahead = checking_ahead c.args.s.now state.at state.p state.n state.least state.invariant c.in_ok-l.l (c.line_at.ensures.some c.in_ok-l.l c.in_ok-l.was) in
    omega (arith, ahead.1)

pub loop-at-smaller : goal.loop-at-smaller
loop-at-smaller c =
    let state = c.loop-at in
    let ahead = checking_ahead c.args.s.now state.at state.p state.n state.least state.invariant c.in_ok-l.l (c.line_at.ensures.some c.in_ok-l.l c.in_ok-l.was) in
    omega (arith, ahead.0, c.loop-at-test.true)

pub loop-at-preserved : goal.loop-at-preserved
loop-at-preserved c =
    let state = c.loop-at in
    checking_next c.args.s.now state.at state.p state.n state.least state.invariant c.in_ok-l.l (c.line_at.ensures.some c.in_ok-l.l c.in_ok-l.was)
    (omega (arith, c.if-rank_of-least.false, c.rank_of.ensures)) c.least_after-least.ensures

pub returns : goal.returns
returns c =
    let state = c.loop-at in
    c.then_some.ensures ∙ checking_told c.args.s.now state.at state.p state.n state.least state.invariant c.requires c.loop-at-test.false
