-- `shelf::got` meets its contract: `got_from` in the layout of version 2. Assumes nothing.
use native.Mathlib.Omega.{arith}
use mathlib.Core.Path.{ap, ◌∙◌}
use Rattle.shelves.specs.Layout.{Layout}
use Rattle.shelf.specs.Parts.{got_span}
use Rattle.shelf.proofs.got.Goals as goal

pub got_from-requires : goal.got_from-requires
got_from-requires c = omega (arith, ap (λ (l : Layout). l.pairs) c.version_two.ensures)

pub returns : goal.returns
returns c = let x = c.args in record { value = c.got_from.ensures.value ∙ ap (λ (l : Layout). got_span l x.s.now x.slot) c.version_two.ensures; inside = c.got_from.ensures.inside }
