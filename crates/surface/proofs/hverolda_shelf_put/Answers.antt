-- `surface::hverolda_shelf_put` meets its contract: what is laid out is what Put answered. Assumes nothing.
use mathlib.Core.Path.{◌≡◌, refl, sym, ap, ap₂, subst, ◌∙◌}
use Rattle.surface.specs.OfShelf.{shelving_of}
use borrow.Author.Rules.{rules}
use Rattle.surface.proofs.hverolda_shelf_put.Goals as goal

pub returns : goal.returns
returns c = let done = c.put.ensures in (c.shelving_of.ensures ∙ ap shelving_of done.0, done.1)
