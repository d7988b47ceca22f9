-- `import_columns::check_release` meets its contract. The loop's invariant: no line before the place has a value that cannot stand. What is left of the text falls. Assumes nothing.
use mathlib.Core.Path.{sym, ◌∙◌}
use native.Mathlib.Omega.{arith}
use Rattle.import_columns.proofs.Passes.{line_in, line_inside, line_ahead, releasing_start, releasing_fails, releasing_next, releasing_done}
use Rattle.import_columns.proofs.check_release.Goals as goal

pub loop-l-init : goal.loop-l-init
loop-l-init c = releasing_start c.args.c c.args.s.now c.requires c.origin-p.ensures

pub line_at-requires : goal.line_at-requires
line_at-requires c = let g = c.loop-l.invariant.come in (g.rest.behind, g.inside, g.within)

pub cannot_stand-requires : goal.cannot_stand-requires
cannot_stand-requires c = line_in c.args.s.now c.loop-l.at c.loop-l.p c.in-Some.l c.loop-l.invariant.come (c.line_at.ensures.some c.in-Some.l c.in-Some.is)

pub returns-then-cannot_stand : goal.returns-then-cannot_stand
returns-then-cannot_stand c =
    let x = c.args in
    let state = c.loop-l in
    c.failed.ensures
    ∙ releasing_fails x.c x.s.now state.at state.p state.n state.invariant c.in-Some.l (c.line_at.ensures.some c.in-Some.l c.in-Some.is)
    (sym c.cannot_stand.ensures ∙ c.if-cannot_stand.true)

pub overflow_add-n : goal.overflow_add-n
overflow_add-n c = omega (arith, c.loop-l.invariant.few, c.loop-l.invariant.come.inside)

pub overflow_add-at : goal.overflow_add-at
overflow_add-at c =
    let x = c.args in
    let state = c.loop-l in
    omega (arith, line_inside x.s.now state.at state.p c.in-Some.l state.invariant.come (c.line_at.ensures.some c.in-Some.l c.in-Some.is))

pub loop-l-smaller : goal.loop-l-smaller
loop-l-smaller c =
    let x = c.args in
    let state = c.loop-l in
    let leading = c.line_at.ensures.some c.in-Some.l c.in-Some.is in
    omega (arith, line_ahead x.s.now state.at state.p c.in-Some.l state.invariant.come leading, line_inside x.s.now state.at state.p c.in-Some.l state.invariant.come leading)

pub loop-l-preserved : goal.loop-l-preserved
loop-l-preserved c =
    let x = c.args in
    let state = c.loop-l in
    releasing_next x.c x.s.now state.at state.p state.n state.invariant c.in-Some.l (c.line_at.ensures.some c.in-Some.l c.in-Some.is)
    (sym c.cannot_stand.ensures ∙ c.if-cannot_stand.false)

pub returns : goal.returns
returns c = releasing_done c.args.c c.args.s.now c.loop-l.at c.loop-l.p c.loop-l.n c.loop-l.invariant c.line_at.ensures c.in_default.is
