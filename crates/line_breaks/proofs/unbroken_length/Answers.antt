-- `line_breaks::unbroken_length` meets its contract. The loop's invariant: what is counted, and what is left, is what was there from the
-- start. What is left falls. Assumes nothing.
use mathlib.Core.Path.{ap, ◌∙◌}
use native.Mathlib.Omega.{arith}
use lib.ListN.{length, drop, length-drop}
use Rattle.line_breaks.specs.Unbroken.{unbroken}
use Rattle.line_breaks.proofs.Unbroken.{unbroken_append, unbroken_most}
use Rattle.line_breaks.proofs.unbroken_length.Goals as goal

pub overflow_add-count : goal.overflow_add-count
overflow_add-count c =
    let (part, after) = c.split_at.result in
    let split = ap (λ (l : _). length (unbroken l)) c.split_at.ensures.by_index.0 ∙ unbroken_append part.now after.now in
    omega (arith, c.part_length.ensures, unbroken_most (drop c.args.start c.args.s.now), length-drop c.args.start c.args.s.now)

pub loop-rest-preserved : goal.loop-rest-preserved
loop-rest-preserved c =
    let (part, after) = c.split_at.result in
    let split = ap (λ (l : _). length (unbroken l)) c.split_at.ensures.by_index.0 ∙ unbroken_append part.now after.now in
    omega (arith, c.part_length.ensures)

pub overflow_add-result : goal.overflow_add-result
overflow_add-result c =
    omega (arith, c.part_length-2.ensures, unbroken_most (drop c.args.start c.args.s.now), length-drop c.args.start c.args.s.now)
