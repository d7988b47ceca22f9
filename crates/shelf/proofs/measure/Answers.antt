-- `shelf::measure` meets its contract: `measure_in` in the layout of version 2. Assumes nothing.
use native.Mathlib.Omega.{arith}
use mathlib.Core.Path.{ap, subst}
use Rattle.shelves.specs.Layout.{Layout}
use Rattle.shelf_contracts.specs.Promises.{Measures}
use Rattle.shelf.proofs.measure.Goals as goal

pub measure_in-requires : goal.measure_in-requires
measure_in-requires c = omega (arith, ap (λ (l : Layout). l.pairs) c.version_two.ensures)

pub returns : goal.returns
returns c = let x = c.args in subst (λ (l : Layout). Measures l x.s.now x.slot c.measure_in.result) c.version_two.ensures c.measure_in.ensures
