-- `surface::hverolda_write` meets its contract: what is laid out is what Write answered, and the output is as it left it.
-- Assumes nothing.
use mathlib.Core.Path.{ap, ◌∙◌}
use borrow.Author.Rules.{rules}
use Rattle.surface.specs.Answered.{written_of}
use Rattle.surface.proofs.hverolda_write.Goals as goal

pub returns : goal.returns
returns c =
    let wrote = c.write.ensures in
    (c.written_of.ensures ∙ ap written_of wrote.0, wrote.1)
