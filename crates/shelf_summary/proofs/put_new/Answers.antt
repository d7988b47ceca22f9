-- `shelf_summary::put_new` meets its contract: its bit and its bytes. Assumes nothing.
use Rattle.shelf_summary.proofs.Cores.{new_is}
use Rattle.shelf_summary.proofs.put_new.Goals as goal

pub returns : goal.returns
returns c = let x = c.args in new_is x.u x.slot x.size c.occupied.ensures
