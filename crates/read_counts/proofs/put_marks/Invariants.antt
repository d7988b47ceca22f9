-- `read_counts::put_marks` meets its contract. The loop's invariant: the records that are left, stored from here, give what all of them,
-- stored at the start, give, and the listing after them is the same. Assumes nothing.
use Rattle.read_counts.proofs.Records.{Lets}
use Rattle.read_counts.proofs.put_marks.Given as goal

abbrev pub invariant-loop : goal.invariant-loop
invariant-loop l = Lets l.kind l.count l.initial.table l.table l.initial.m l.m l.counter
