-- `surface::hverolda_shelf_slots` meets its contract: what is laid out is what was read off the map. Assumes nothing.
use mathlib.Core.Path.{◌≡◌, refl, sym, ap, ap₂, subst, ◌∙◌}
use Rattle.surface.specs.OfShelf.{slot_numbers_of}
use borrow.Author.Rules.{rules}
use Rattle.surface.proofs.hverolda_shelf_slots.Goals as goal

pub returns : goal.returns
returns c = c.slot_numbers_of.ensures ∙ ap slot_numbers_of c.slots.ensures
