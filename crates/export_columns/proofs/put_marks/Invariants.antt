-- `export_columns::put_marks` meets its contract. The loop's invariant: the text that is left, put from here, gives what all of it, put
-- at the start, gives, and the line after it is the same. Assumes nothing.
use Rattle.export_columns.proofs.Steps.{Lets}
use Rattle.export_columns.proofs.put_marks.Given as goal

abbrev pub invariant-loop : goal.invariant-loop
invariant-loop g l = Lets g.S.Sink.holds g.S.Sink.room l.kind l.count l.initial.buffer l.buffer l.initial.m l.m l.counter
