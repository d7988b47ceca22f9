-- `surface::hverolda_export` meets its contract: what is laid out is what Export answered, and the buffer is as it left it.
-- Assumes nothing.
use mathlib.Core.Path.{ap, ◌∙◌}
use borrow.Author.Rules.{rules}
use Rattle.surface.specs.Answered.{written_of}
use Rattle.surface.proofs.hverolda_export.Goals as goal

pub returns : goal.returns
returns c =
    let told = c.export_columns.ensures in
    (c.written_of.ensures ∙ ap written_of told.0, told.1)
