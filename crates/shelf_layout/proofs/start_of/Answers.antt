-- `shelf_layout::start_of` meets its contract: a number of four bytes. Assumes nothing.
use native.Mathlib.Omega.{arith}
use Prim.Native.Nat.{◌+◌, ◌*◌}
use Rattle.shelves.specs.Layout.{pair_place, start_of}
use Rattle.numbers.proofs.Numbers.{number_below}
use Rattle.shelf_layout.proofs.start_of.Goals as goal

pub returns : goal.returns
unfolding pair_place start_of
returns c =
    let x = c.args in
    let small = number_below x.s.now (x.l.pairs + x.slot * 8) 4 (λ j h. (c.type_inv.s j).fits) (omega arith) in
    (c.get.ensures, omega (arith, small, c.get.ensures))
