-- `surface_cases::put` meets its contract: what `surface::hverolda_shelf_put` promises is what the operation promises. Assumes nothing.
use mathlib.Core.Path.{sym, ap, ◌∙◌}
use borrow.Author.Rules.{rules}
use Rattle.surface.specs.OfShelf.{shelving_of}
use Rattle.surface_cases.proofs.Laid.{shelving_laid}
use Rattle.surface_cases.proofs.put.Goals as goal

pub returns : goal.returns
returns c =
    λ a left h.
    let said = c.hverolda_shelf_put.ensures in
    (said.0 ∙ ap shelving_of (sym h.0) ∙ shelving_laid a, said.1 ∙ sym h.1)
