-- `surface::hverolda_normalise` meets its contract: what is laid out is what Normalise answered, and the buffer is as it left it.
-- Assumes nothing.
use mathlib.Core.Path.{ap, ◌∙◌}
use borrow.Author.Rules.{rules}
use Rattle.surface.specs.Answered.{written_of}
use Rattle.surface.proofs.hverolda_normalise.Goals as goal

pub returns : goal.returns
returns c =
    let normalised = c.normalise.ensures in
    (c.written_of.ensures ∙ ap written_of normalised.0, normalised.1)
