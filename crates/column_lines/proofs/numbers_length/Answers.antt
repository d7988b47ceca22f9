-- `column_lines::numbers_length` meets its contract: each number has at most twenty digits. Assumes nothing.
use native.Mathlib.Omega.{arith}
use Rattle.column_lines.proofs.Numbers.{numbers_length}
use Rattle.column_lines.proofs.numbers_length.Goals as goal

pub overflow_add-result : goal.overflow_add-result
overflow_add-result c = omega (arith, c.digit_count-2.ensures.1, c.digit_count.ensures.1)

pub overflow_add-result-2 : goal.overflow_add-result-2
overflow_add-result-2 c = omega (arith, c.digit_count-3.ensures.1, c.digit_count-2.ensures.1, c.digit_count.ensures.1)

pub overflow_add-result-3 : goal.overflow_add-result-3
overflow_add-result-3 c =
    omega (arith, c.digit_count-4.ensures.1, c.digit_count-3.ensures.1, c.digit_count-2.ensures.1, c.digit_count.ensures.1)

pub overflow_add-result-4 : goal.overflow_add-result-4
overflow_add-result-4 c =
    omega (arith, c.digit_count-4.ensures.1, c.digit_count-3.ensures.1, c.digit_count-2.ensures.1, c.digit_count.ensures.1)

pub returns : goal.returns
returns c =
    let one = c.digit_count.ensures in
    let two = c.digit_count-2.ensures in
    let three = c.digit_count-3.ensures in
    let four = c.digit_count-4.ensures in (
      omega (arith, one.0, two.0, three.0, four.0, numbers_length c.args.p),
      omega (arith, one.1, two.1, three.1, four.1),
    )
