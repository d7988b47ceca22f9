-- `surface_cases::locate_value` meets its contract: what `surface::hverolda_locate_value` promises is what the operation promises. Assumes nothing.
use mathlib.Core.Path.{sym, ap, ◌∙◌}
use borrow.Author.Rules.{rules}
use Rattle.surface.specs.Answered.{location_of}
use Rattle.surface_cases.proofs.Laid.{location_laid}
use Rattle.surface_cases.proofs.locate_value.Goals as goal

pub returns : goal.returns
returns c = λ a h. c.hverolda_locate_value.ensures ∙ ap location_of (sym h) ∙ location_laid a
