-- `shelf_layout::put_pair` meets its contract: two numbers, one after the other. Assumes nothing.
use native.Mathlib.Omega.{arith}
use Prim.Native.Nat.{◌+◌, ◌*◌}
use Rattle.numbers.specs.Numbers.{in_bytes}
use Rattle.numbers.proofs.Numbers.{in_bytes_length}
use Rattle.shelves.specs.Layout.{pair_place}
use Rattle.shelves.specs.Operations.{pair_of}
use Rattle.storing.proofs.Stores.{stored_after}
use Rattle.shelf_layout.proofs.put_pair.Goals as goal

pub returns : goal.returns
unfolding pair_place pair_of
returns c =
    let x = c.args in
    stored_after x.s.now (x.l.pairs + x.slot * 8) (in_bytes 4 x.start) (in_bytes 4 x.size) c.put.ensures (omega (arith, in_bytes_length 4 x.start)) c.put-2.ensures
