-- `surface::hverolda_parties` meets its contract: what is laid out is what was found. Assumes nothing.
use mathlib.Core.Path.{◌∙◌}
use borrow.Author.Rules.{rules}
use Rattle.surface.proofs.PartiesLaid.{parties_are}
use Rattle.surface.proofs.hverolda_parties.Goals as goal

pub returns : goal.returns
returns c = c.parties_laid.ensures ∙ parties_are _ c.parties_of.ensures
