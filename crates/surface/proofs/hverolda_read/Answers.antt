-- `surface::hverolda_read` meets its contract: what is laid out is what Read answered, and both buffers are as it left them.
-- Assumes nothing.
use mathlib.Core.Path.{ap, ◌∙◌}
use borrow.Author.Rules.{rules}
use Rattle.surface.specs.Answered.{listing_of}
use Rattle.surface.proofs.hverolda_read.Goals as goal

pub returns : goal.returns
returns c =
    let listed = c.read.ensures in
    (c.listing_of.ensures ∙ ap listing_of listed.0, listed.1, listed.2)
