-- `received_pieces::values_in` meets its contract. The loop's invariant: what is listed and the values of what is left of the piece, with
-- a terminator that ends it, are the whole; and there is at most a value and a byte of a value for each byte passed. What is left of the
-- input falls. Assumes nothing.
use Prim.Native.Nat.{◌+◌, ◌-◌}
use lib.ListN.{length}
use Rattle.values.specs.Tokens.{tokens_at}
use Rattle.read_counts.proofs.Steps.{Tallied}
use Rattle.received_pieces.specs.Pieces.{piece_of, ended}
use Rattle.received_pieces.proofs.values_in.Given as goal

abbrev pub invariant-loop-next : goal.invariant-loop-next
invariant-loop-next l = Tallied (ended (piece_of 1 (tokens_at l.d l.s l.from))) l.l (ended (piece_of 1 (tokens_at l.d l.s l.at))) (length l.s - l.at + 1) (length l.s + 1)

abbrev pub decreases-loop-next : goal.decreases-loop-next
decreases-loop-next l = length l.s - l.at
