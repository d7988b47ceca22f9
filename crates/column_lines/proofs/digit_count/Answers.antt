-- `column_lines::digit_count` meets its contract. The loop's invariant: the digits counted and those of what is left are those of the number,
-- and one more. What is left falls. Assumes nothing.
use native.Mathlib.Omega.{arith}
use Rattle.column_laws.proofs.Decimals.{one_digit, more_digits, few_digits}
use Rattle.column_lines.proofs.digit_count.Goals as goal

pub loop-left-init : goal.loop-left-init
loop-left-init c = (omega arith, omega arith)

pub overflow_add-count : goal.overflow_add-count
overflow_add-count c = omega (arith, c.loop-left.invariant.1, c.loop-left-test.true, c.ranges.n)

pub loop-left-smaller : goal.loop-left-smaller
loop-left-smaller c = omega (arith, c.loop-left-test.true)

pub loop-left-preserved : goal.loop-left-preserved
loop-left-preserved c =
    let taken = c.loop-left-test.true in
    let left = c.loop-left.left in
    (omega (arith, c.loop-left.invariant.0, more_digits left taken), omega (arith, c.loop-left.invariant.1, taken))

pub returns : goal.returns
returns c =
    let one = one_digit c.loop-left.left (omega (arith, c.loop-left-test.false)) in
    let few = few_digits c.args.n (omega (arith, c.ranges.n)) in
    (omega (arith, c.loop-left.invariant.0, one), omega (arith, c.loop-left.invariant.0, one, few))
