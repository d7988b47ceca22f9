-- `slot_map::count` meets its contract. Assumes nothing.
use native.Mathlib.Omega.{arith}
use lib.Count.{ones-le}
use Rattle.slot_map.proofs.Maps.{count_is}
use Rattle.slot_map.proofs.count.Goals as goal

pub overflow_cast-result : goal.overflow_cast-result
overflow_cast-result c = record { fits = omega (arith, ones-le 64 c.args.map (omega arith)) }

pub returns : goal.returns
returns c = count_is c.args.map (omega arith)
