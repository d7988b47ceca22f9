-- `surface_cases::sums` meets its contract: what `surface::hverolda_shelf_sums` promises is what the operation promises. Assumes nothing.
use mathlib.Core.Path.{sym, ap, ◌∙◌}
use borrow.Author.Rules.{rules}
use Rattle.surface.specs.OfShelf.{sum_numbers_of}
use Rattle.surface_cases.proofs.Laid.{sums_laid}
use Rattle.surface_cases.proofs.sums.Goals as goal

pub returns : goal.returns
returns c = λ a h. c.hverolda_shelf_sums.ensures ∙ ap sum_numbers_of (sym h) ∙ sums_laid a
