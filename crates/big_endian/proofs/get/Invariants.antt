-- `big_endian::get` meets its contract. The loop's invariant: the number is what was read so far, and reading goes on from it. Assumes nothing.
use Prim.Native.Nat.{◌^◌, ◌<◌}
use mathlib.Core.Path.{◌≡◌}
use lib.ListN.{drop}
use Rattle.numbers.specs.Numbers.{read_on, number_at}
use Rattle.big_endian.proofs.get.Given as goal

abbrev pub invariant-loop-b : goal.invariant-loop-b
invariant-loop-b l = (l.number < 256 ^ l.b-index) × (number_at l.s l.at l.width ≡ read_on l.number (drop l.b-index l.b-items))
