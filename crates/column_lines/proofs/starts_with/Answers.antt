-- `column_lines::starts_with` meets its contract: byte by byte, one differs, or the others are left, or none is left. Assumes nothing.
use mathlib.Core.Path.{refl, sym, ◌∙◌}
use native.Mathlib.Omega.{arith}
use Rattle.column_lines.proofs.Numbers.{begins_short, begins_differs, begins_next, begins_done}
use Rattle.column_lines.proofs.starts_with.Goals as goal

pub returns-then-s-line : goal.returns-then-s-line
returns-then-s-line c = sym (begins_short c.args.line.now c.args.s.now c.if-s-line.true)

pub loop-i-init : goal.loop-i-init
loop-i-init c = (omega (arith, c.if-s-line.false), refl)

pub returns-then-s-i : goal.returns-then-s-i
returns-then-s-i c =
    let args = c.args in
    let loop = c.loop-i in
    let taken = c.loop-i-test.true in
    sym (loop.invariant.1 ∙ begins_differs args.line.now args.s.now loop.i taken (omega (arith, loop.invariant.0, taken)) c.if-s-i.true)

pub loop-i-preserved : goal.loop-i-preserved
loop-i-preserved c =
    let args = c.args in
    let loop = c.loop-i in
    let taken = c.loop-i-test.true in
    (loop.invariant.0, loop.invariant.1 ∙ begins_next args.line.now args.s.now loop.i taken (omega (arith, loop.invariant.0, taken)) c.if-s-i.false)

pub returns : goal.returns
returns c =
    let args = c.args in
    let loop = c.loop-i in
    sym (loop.invariant.1 ∙ begins_done args.line.now args.s.now loop.i c.loop-i-test.false)
