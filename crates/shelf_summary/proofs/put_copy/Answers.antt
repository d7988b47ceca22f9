-- `shelf_summary::put_copy` meets its contract: at the ceiling it stays. Assumes nothing.
use mathlib.Core.Path.{ap}
use native.Mathlib.Omega.{arith}
use Rattle.shelf_summary.proofs.Cores.{counted}
use Rattle.shelves.specs.Summary.{put_copy}
use Rattle.shelf_summary.proofs.put_copy.Goals as goal

pub returns : goal.returns
unfolding put_copy
returns c = ap (counted c.args.u) (omega arith)
