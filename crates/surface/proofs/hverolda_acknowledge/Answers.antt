-- `surface::hverolda_acknowledge` meets its contract: what is laid out is what Acknowledge answered, and the output is as it left it.
-- Assumes nothing.
use mathlib.Core.Path.{ap, ◌∙◌}
use borrow.Author.Rules.{rules}
use Rattle.surface.specs.Answered.{written_of}
use Rattle.surface.proofs.hverolda_acknowledge.Goals as goal

pub returns : goal.returns
returns c =
    let told = c.acknowledge.ensures in
    (c.written_of.ensures ∙ ap written_of told.0, told.1)
