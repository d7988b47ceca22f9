-- `normal_form_text::put_segment` meets its contract. The loop's invariant: what is emitted from `at` on, put from the place reached, gives what is
-- emitted from the start on, put there; it fits, and it is measured. What is left of the input falls. Assumes nothing.
use Prim.Native.Nat.{◌-◌}
use lib.ListN.{length}
use Rattle.values.specs.Tokens.{tokens_at}
use Rattle.storing.proofs.Putting.{Going}
use Rattle.emission_laws.specs.Emission.{emitted}
use Rattle.stretches.specs.Stretches.{emitted_at}
use Rattle.normal_form_text.proofs.Passing.{Passing}
use Rattle.normal_form_text.proofs.put_segment.Given as goal

abbrev pub invariant-loop-byte : goal.invariant-loop-byte
invariant-loop-byte g l = Going g.S.Sink.holds g.S.Sink.room l.initial.buffer l.buffer l.initial.m.total l.m.total (emitted_at l.by.c l.by.n l.s l.initial.at) (emitted l.by.n l.m.held (tokens_at l.by.c l.s l.at))
    × Passing l.by.c l.by.n l.s (record { total = l.initial.m.total; at = l.initial.at }) l.m l.at

abbrev pub decreases-loop-byte : goal.decreases-loop-byte
decreases-loop-byte g l = length l.s - l.at
