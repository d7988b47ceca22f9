-- `surface_cases::carry` meets its contract: what `surface::hverolda_shelf_carry` promises is what the operation promises. Assumes nothing.
use mathlib.Core.Path.{sym, ap, ◌∙◌}
use borrow.Author.Rules.{rules}
use Rattle.surface.specs.OfShelf.{started_of}
use Rattle.surface_cases.proofs.Laid.{started_laid}
use Rattle.surface_cases.proofs.carry.Goals as goal

pub returns : goal.returns
returns c =
    λ a left h.
    let said = c.hverolda_shelf_carry.ensures in
    (said.0 ∙ ap started_of (sym h.0) ∙ started_laid a, said.1 ∙ sym h.1)
