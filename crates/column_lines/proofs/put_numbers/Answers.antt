-- `column_lines::put_numbers` meets its contract: each number is stored after the one before it. Assumes nothing.
use native.Mathlib.Omega.{arith}
use Rattle.column_lines.proofs.Numbers.{numbers_cells, numbers_put}
use Rattle.column_lines.proofs.put_numbers.Goals as goal

pub put_column-element-requires : goal.put_column-element-requires
put_column-element-requires c = omega (arith, c.requires, numbers_cells c.args.p)

pub put_column-repeat-requires : goal.put_column-repeat-requires
put_column-repeat-requires c = omega (arith, c.requires, numbers_cells c.args.p, c.put_column-element.ensures.1)

pub put_column-component-requires : goal.put_column-component-requires
put_column-component-requires c =
    omega (arith, c.requires, numbers_cells c.args.p, c.put_column-element.ensures.1, c.put_column-repeat.ensures.1)

pub put_column-requires : goal.put_column-requires
put_column-requires c =
    omega (arith, c.requires, numbers_cells c.args.p, c.put_column-element.ensures.1, c.put_column-repeat.ensures.1, c.put_column-component.ensures.1)

pub returns : goal.returns
returns c =
    let args = c.args in
    let one = c.put_column-element.ensures in
    let two = c.put_column-repeat.ensures in
    let three = c.put_column-component.ensures in
    let four = c.put_column.ensures in
    numbers_put args.p args.buffer.now args.at one.0 one.1 two.0 two.1 three.0 three.1 four.0 four.1
