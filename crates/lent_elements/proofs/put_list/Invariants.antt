-- `lent_elements::put_list` meets its contract. The loop's invariant: what is left of the records, put from the place reached, gives what all of
-- them, put at the start, give. Assumes nothing.
use mathlib.Core.Path.{◌≡◌}
use Rattle.lent_elements.proofs.Records.{Placed}
use Rattle.lent_elements.proofs.put_list.Given as goal

abbrev pub invariant-loop-numbers : goal.invariant-loop-numbers
invariant-loop-numbers g l =
    (l.numbers-iterator.size ≡ 3)
    × Placed l.list.bytes.now l.list.table.now g.S.Sink.holds g.S.Sink.room l.c l.fn.m l.fn.buffer l.buffer l.n l.numbers-iterator.rest.now
