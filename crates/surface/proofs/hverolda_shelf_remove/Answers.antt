-- `surface::hverolda_shelf_remove` meets its contract: what is laid out is what Remove answered. Assumes nothing.
use mathlib.Core.Path.{◌≡◌, refl, sym, ap, ap₂, subst, ◌∙◌}
use Rattle.surface.specs.Answered.{written_of}
use borrow.Author.Rules.{rules}
use Rattle.surface.proofs.hverolda_shelf_remove.Goals as goal

pub returns : goal.returns
returns c = let done = c.remove.ensures in (c.written_of.ensures ∙ ap written_of done.0, done.1)
