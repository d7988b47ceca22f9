-- `shelf::slots` meets its contract: `slots_of` in the layout of version 2. Assumes nothing.
use native.Mathlib.Omega.{arith}
use mathlib.Core.Path.{ap, subst}
use Rattle.shelves.specs.Layout.{Layout}
use Rattle.shelf_contracts.specs.Promises.{Counts}
use Rattle.shelf.proofs.slots.Goals as goal

pub slots_of-requires : goal.slots_of-requires
slots_of-requires c = omega (arith, ap (λ (l : Layout). l.pairs) c.version_two.ensures)

pub returns : goal.returns
returns c = let x = c.args in subst (λ (l : Layout). Counts l x.s.now c.slots_of.result) c.version_two.ensures c.slots_of.ensures
