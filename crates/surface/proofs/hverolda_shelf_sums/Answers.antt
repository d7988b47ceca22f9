-- `surface::hverolda_shelf_sums` meets its contract: what is laid out is what the two sums are. Assumes nothing.
use mathlib.Core.Path.{◌≡◌, refl, sym, ap, ap₂, subst, ◌∙◌}
use Rattle.surface.specs.OfShelf.{sum_numbers_of}
use borrow.Author.Rules.{rules}
use Rattle.surface.proofs.hverolda_shelf_sums.Goals as goal

pub returns : goal.returns
returns c = c.sum_numbers_of.ensures ∙ ap sum_numbers_of c.sums.ensures
