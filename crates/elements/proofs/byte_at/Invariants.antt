-- `elements::byte_at` meets its contract. The loop's invariant: the value that begins at the start goes on at `at`, and ends where it
-- ends. What is left of the input falls. Assumes nothing.
use Prim.Native.Nat.{◌-◌}
use lib.ListN.{length}
use Rattle.elements.proofs.Values.{Continues}
use Rattle.elements.proofs.byte_at.Given as goal

abbrev pub invariant-loop-byte : goal.invariant-loop-byte
invariant-loop-byte l = Continues l.c l.s l.from l.at

abbrev pub decreases-loop-byte : goal.decreases-loop-byte
decreases-loop-byte l = length l.s - l.at
