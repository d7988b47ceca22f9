-- `read_stores::put_values` meets its contract. The loop's invariant: the values of the tokens from `at` on, put from here, give the whole,
-- in the byte buffer and in the table; it fits. What is left of the input falls. Assumes nothing.
use Prim.Native.Nat.{◌-◌}
use lib.ListN.{length}
use Rattle.values.specs.Tokens.{tokens_at}
use Rattle.read_stores.proofs.Storing.{Listed}
use Rattle.read_stores.proofs.put_values.Given as goal

abbrev pub invariant-loop-byte : goal.invariant-loop-byte
invariant-loop-byte g l = Listed g.S.Sink.holds g.S.Sink.room l.initial.buffer l.buffer l.initial.table l.table (tokens_at l.c l.s l.start) l.l (tokens_at l.c l.s l.at) (length l.s - l.at) (length l.s)

abbrev pub decreases-loop-byte : goal.decreases-loop-byte
decreases-loop-byte g l = length l.s - l.at
