-- `shelf::start` meets its contract: `start_as` in the layout of version 2. Assumes nothing.
use native.Mathlib.Omega.{arith}
use mathlib.Core.Path.{ap, subst}
use Rattle.shelves.specs.Layout.{Layout}
use Rattle.shelf_contracts.specs.Promises.{Starts}
use Rattle.shelf.proofs.start.Goals as goal

pub start_as-requires : goal.start_as-requires
start_as-requires c = omega (arith, ap (λ (l : Layout). l.pairs) c.version_two.ensures)

pub returns : goal.returns
returns c = let x = c.args in subst (λ (l : Layout). Starts l x.s.now c.start_as.result c.start_as.new.s) c.version_two.ensures c.start_as.ensures
