-- `shelf_summary::store_head` meets its contract: three numbers, one behind the other. Assumes nothing.
use Rattle.shelf_summary.proofs.Backs.{three_stores}
use Rattle.shelf_summary.proofs.store_head.Goals as goal

pub returns : goal.returns
returns c = let e = three_stores c.args.s.now c.args.u in cc
