-- `import_columns::put_lines` meets its contract. The loop's invariant: what is left of the values, put from here, gives what all of them, put at the start, give, and what is put is not over 32,000 bytes yet. What is left of the text falls. Assumes nothing.
use Prim.Native.Nat.{◌-◌}
use lib.ListN.{length}
use Rattle.import_columns.proofs.Passes.{Putting}
use Rattle.import_columns.proofs.put_lines.Given as goal

abbrev pub invariant-loop-l : goal.invariant-loop-l
invariant-loop-l g l = Putting g.S.Sink.holds g.S.Sink.room l.c l.s l.at l.p l.m l.initial.output l.output

abbrev pub decreases-loop-l : goal.decreases-loop-l
decreases-loop-l g l = length l.s - l.at
