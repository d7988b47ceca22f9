-- `export_columns::put_lines` meets its contract. The loop's invariant: the lines of the tokens from `at` on, put from here, give what those
-- of the whole, put at the start, give. What is left of the input falls. Assumes nothing.
use Prim.Native.Nat.{◌-◌}
use lib.ListN.{length}
use Rattle.values.specs.Tokens.{tokens_at}
use Rattle.export_columns.proofs.Steps.{Put}
use Rattle.export_columns.proofs.put_lines.Given as goal

abbrev pub invariant-loop-byte : goal.invariant-loop-byte
invariant-loop-byte g l = Put g.S.Sink.holds g.S.Sink.room l.initial.buffer l.buffer (tokens_at l.c l.s l.start) l.l (tokens_at l.c l.s l.at) (length l.s - l.at)

abbrev pub decreases-loop-byte : goal.decreases-loop-byte
decreases-loop-byte g l = length l.s - l.at
