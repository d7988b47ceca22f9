-- `normal_form_text::put_contents` meets its contract. The loop's invariant: the body is put up to what is reached. What is left of the input falls.
-- Assumes nothing.
use Prim.Native.Nat.{◌-◌}
use lib.ListN.{length}
use Rattle.normal_form_text.specs.Put.{Put}
use Rattle.normal_form_text.proofs.put_contents.Given as goal

abbrev pub invariant-loop-reached : goal.invariant-loop-reached
invariant-loop-reached g l = Put g.S.Sink.holds g.S.Sink.room l.by.c l.by.n l.s l.initial.buffer l.buffer (record { total = l.from; at = l.start }) l.reached

abbrev pub decreases-loop-reached : goal.decreases-loop-reached
decreases-loop-reached g l = length l.s - l.reached.at
