-- `surface_cases::keep` meets its contract: what `surface::hverolda_keep` promises is what the operation promises. Assumes nothing.
use borrow.Author.Rules.{rules}
use Rattle.surface_cases.proofs.Said.{kept_said}
use Rattle.surface_cases.proofs.keep.Goals as goal

pub returns : goal.returns
returns c = kept_said _ _ _ c.hverolda_keep.ensures
