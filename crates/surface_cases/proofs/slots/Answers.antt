-- `surface_cases::slots` meets its contract: what `surface::hverolda_shelf_slots` promises is what the operation promises. Assumes nothing.
use mathlib.Core.Path.{sym, ap, ◌∙◌}
use borrow.Author.Rules.{rules}
use Rattle.surface.specs.OfShelf.{slot_numbers_of}
use Rattle.surface_cases.proofs.Laid.{slots_laid}
use Rattle.surface_cases.proofs.slots.Goals as goal

pub returns : goal.returns
returns c = λ a h. c.hverolda_shelf_slots.ensures ∙ ap slot_numbers_of (sym h) ∙ slots_laid a
