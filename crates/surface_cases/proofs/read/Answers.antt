-- `surface_cases::read` meets its contract: what `surface::hverolda_read` promises is what the operation promises. Assumes nothing.
use mathlib.Core.Path.{sym, ap, ◌∙◌}
use borrow.Author.Rules.{rules}
use Rattle.surface.specs.Answered.{listing_of}
use Rattle.surface_cases.proofs.Laid.{listing_laid}
use Rattle.surface_cases.proofs.read.Goals as goal

pub returns : goal.returns
returns c =
    λ a bytes numbers h.
    let said = c.hverolda_read.ensures in
    (said.0 ∙ ap listing_of (sym h.0) ∙ listing_laid a, said.1 ∙ sym h.1, said.2 ∙ sym h.2)
