-- `acknowledge::put_parts` meets its contract. The loop's invariant: what is left of the parts, put from the place reached, gives what all of them give; and what is put is not over 32,000 bytes yet. Assumes nothing.
use Rattle.acknowledgement_parts.specs.Parts.{lent_in}
use Rattle.acknowledge.proofs.Rows.{Underway}
use Rattle.acknowledge.proofs.put_parts.Given as goal

abbrev pub invariant-loop-i : goal.invariant-loop-i
invariant-loop-i g l = Underway g.S.Sink.holds g.S.Sink.room l.c l.s (lent_in l.fn.lent) l.r l.initial.output l.output l.m l.i
