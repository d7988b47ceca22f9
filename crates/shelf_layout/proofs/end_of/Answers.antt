-- `shelf_layout::end_of` meets its contract. Assumes nothing.
use native.Mathlib.Omega.{arith}
use Rattle.shelves.specs.Layout.{end_of}
use Rattle.shelf_layout.proofs.end_of.Goals as goal

pub returns : goal.returns
unfolding end_of
returns c = omega (arith, c.base.ensures, c.held.ensures.0)
