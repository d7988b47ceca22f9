-- `received_pieces::next_in` meets its contract. The loop's invariant: the piece that begins at the start goes on at `at`. What is left
-- of the input falls. Assumes nothing.
use Prim.Native.Nat.{◌-◌}
use lib.ListN.{length}
use Rattle.received_pieces.proofs.Steps.{GoesOn}
use Rattle.received_pieces.proofs.next_in.Given as goal

abbrev pub invariant-loop-byte : goal.invariant-loop-byte
invariant-loop-byte l = GoesOn l.d l.s l.rank l.from l.at

abbrev pub decreases-loop-byte : goal.decreases-loop-byte
decreases-loop-byte l = length l.s - l.at
