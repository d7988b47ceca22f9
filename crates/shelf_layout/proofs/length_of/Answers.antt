-- `shelf_layout::length_of` meets its contract: a number of four bytes. Assumes nothing.
use native.Mathlib.Omega.{arith}
use Prim.Native.Nat.{◌+◌, ◌*◌}
use Rattle.shelves.specs.Layout.{pair_place, length_of}
use Rattle.numbers.proofs.Numbers.{number_below}
use Rattle.shelf_layout.proofs.length_of.Goals as goal

pub returns : goal.returns
unfolding pair_place length_of
returns c =
    let x = c.args in
    let small = number_below x.s.now (x.l.pairs + x.slot * 8 + 4) 4 (λ j h. (c.type_inv.s j).fits) (omega arith) in
    (c.get.ensures, omega (arith, small, c.get.ensures))
