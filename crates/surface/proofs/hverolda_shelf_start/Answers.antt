-- `surface::hverolda_shelf_start` meets its contract: what is laid out is what Start answered. Assumes nothing.
use mathlib.Core.Path.{◌≡◌, refl, sym, ap, ap₂, subst, ◌∙◌}
use Rattle.surface.specs.OfShelf.{started_of}
use borrow.Author.Rules.{rules}
use Rattle.surface.proofs.hverolda_shelf_start.Goals as goal

pub returns : goal.returns
returns c = let done = c.start.ensures in (c.started_of.ensures ∙ ap started_of done.0, done.1)
