-- `surface_cases::value_part` meets its contract: what `surface::hverolda_value_part` promises is what the operation promises. Assumes nothing.
use borrow.Author.Rules.{rules}
use Rattle.surface_cases.proofs.Said.{part_said}
use Rattle.surface_cases.proofs.value_part.Goals as goal

pub returns : goal.returns
returns c = part_said _ _ _ _ _ _ c.hverolda_value_part.ensures
