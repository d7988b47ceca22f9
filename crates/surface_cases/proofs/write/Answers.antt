-- `surface_cases::write` meets its contract: what `surface::hverolda_write` promises is what the operation promises. Assumes nothing.
use mathlib.Core.Path.{sym, ap, ◌∙◌}
use borrow.Author.Rules.{rules}
use Rattle.surface.specs.Answered.{written_of}
use Rattle.surface_cases.proofs.Laid.{written_laid}
use Rattle.surface_cases.proofs.write.Goals as goal

pub returns : goal.returns
returns c =
    λ a left h.
    let said = c.hverolda_write.ensures in
    (said.0 ∙ ap written_of (sym h.0) ∙ written_laid a, said.1 ∙ sym h.1)
