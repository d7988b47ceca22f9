-- `slot_map::lowest_free` meets its contract. Assumes nothing.
use native.Mathlib.Omega.{arith}
use Prim.Native.Nat.{◌-◌}
use lib.Count.{trailing_le}
use Rattle.slot_map.proofs.Maps.{lowest_free_is}
use Rattle.slot_map.proofs.lowest_free.Goals as goal

pub overflow_cast-result : goal.overflow_cast-result
overflow_cast-result c = record { fits = omega (arith, trailing_le 64 (18446744073709551615 - c.args.map)) }

pub returns : goal.returns
returns c = lowest_free_is c.args.map (omega arith)
