-- `big_endian::put` meets its contract. The loop's invariant: what is left of the number, stored in the bytes that are left, gives what the
-- whole gives. Assumes nothing.
use mathlib.Core.Path.{◌≡◌}
use lib.Seq.{sets}
use Rattle.numbers.specs.Numbers.{in_bytes}
use Rattle.big_endian.proofs.put.Given as goal

abbrev pub invariant-loop-i : goal.invariant-loop-i
invariant-loop-i l = sets l.initial.s l.at (in_bytes l.width l.number) ≡ sets l.s l.at (in_bytes l.i l.rest)
