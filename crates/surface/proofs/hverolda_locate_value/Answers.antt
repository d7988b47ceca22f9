-- `surface::hverolda_locate_value` meets its contract: what is laid out is what Locate answered. Assumes nothing.
use mathlib.Core.Path.{ap, ◌∙◌}
use borrow.Author.Rules.{rules}
use Rattle.surface.specs.Answered.{location_of}
use Rattle.surface.proofs.hverolda_locate_value.Goals as goal

pub returns : goal.returns
returns c = c.location_of.ensures ∙ ap location_of c.locate.ensures.locates
