-- `shelf_layout::held_figure` meets its contract: a number of four bytes. Assumes nothing.
use native.Mathlib.Omega.{arith}
use Rattle.shelves.specs.Layout.{held_figure}
use Rattle.numbers.proofs.Numbers.{number_below}
use Rattle.shelf_layout.proofs.held_figure.Goals as goal

pub overflow_cast-result : goal.overflow_cast-result
overflow_cast-result c =
    let small = number_below c.args.s.now 13 4 (λ j h. (c.type_inv.s j).fits) (omega (arith, c.requires)) in
    record { fits = omega (arith, small, c.get.ensures) }

pub returns : goal.returns
unfolding held_figure
returns c = c.get.ensures
