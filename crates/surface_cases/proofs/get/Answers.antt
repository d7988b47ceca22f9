-- `surface_cases::get` meets its contract: what `surface::hverolda_shelf_get` promises is what the operation promises. Assumes nothing.
use borrow.Author.Rules.{rules}
use Rattle.surface_cases.proofs.Said.{got_said}
use Rattle.surface_cases.proofs.get.Goals as goal

pub returns : goal.returns
returns c = got_said _ _ _ c.hverolda_shelf_get.ensures
