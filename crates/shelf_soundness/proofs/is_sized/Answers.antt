-- `shelf_soundness::is_sized` meets its contract. Assumes nothing.
use Prim.Native.Nat.{ℕ}
use mathlib.Core.Path.{ap}
use mathlib.Core.Bool.{◌&&◌}
use lib.Dec.{leb}
use lib.ListN.{length}
use Rattle.shelves.specs.Soundness.{is_sized}
use Rattle.shelf_soundness.proofs.is_sized.Goals as goal

pub returns : goal.returns
unfolding is_sized
returns c = let s = c.args.s.now in ap (λ (b : ℕ). leb b (length s) && leb (length s) 65536) c.base.ensures
