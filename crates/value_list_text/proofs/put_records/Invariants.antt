-- `value_list_text::put_records` meets its contract. The loop's invariant: what is left of the records, put from here, gives what all of
-- them, put at the start, give; the others are passed; and what is passed is not over 32,000 bytes yet. Assumes nothing.
use mathlib.Core.Path.{◌≡◌}
use Rattle.operations.specs.ValueList.{listed_in}
use Rattle.value_list_text.proofs.Putting.{Underway}
use Rattle.value_list_text.proofs.Rows.{Reached}
use Rattle.value_list_text.proofs.put_records.Given as goal

abbrev pub invariant-loop-numbers : goal.invariant-loop-numbers
invariant-loop-numbers g l =
    (l.numbers-iterator.size ≡ 3)
    × Underway g.S.Sink.holds g.S.Sink.room l.c (listed_in l.bytes l.table) l.initial.buffer l.buffer l.m (listed_in l.bytes l.numbers-iterator.rest.now)
    × Reached l.c l.bytes l.table l.m l.numbers-iterator.rest.now
