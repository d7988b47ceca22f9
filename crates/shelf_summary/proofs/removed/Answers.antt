-- `shelf_summary::removed` meets its contract. Assumes nothing.
use Rattle.shelf_summary.proofs.Cores.{removed_is}
use Rattle.shelf_summary.proofs.removed.Goals as goal

pub returns : goal.returns
returns c = let x = c.args in removed_is x.u x.slot x.size c.freed.ensures
