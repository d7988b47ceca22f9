-- `surface::hverolda_piece` meets its contract: what is laid out is how the first piece ends. Assumes nothing.
use mathlib.Core.Path.{◌∙◌}
use borrow.Author.Rules.{rules}
use Rattle.surface.proofs.MailboxLaid.{ending_laid}
use Rattle.surface.proofs.hverolda_piece.Goals as goal

pub returns : goal.returns
returns c = c.piece_laid.ensures ∙ ending_laid _ c.first_piece.ensures
