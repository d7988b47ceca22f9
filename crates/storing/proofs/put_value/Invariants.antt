-- `storing::put_value` meets its contract. The loop's invariant: what is left of the value, put from here, gives what the whole, put at the
-- start, gives; and the place is after what is passed. Assumes nothing.
use Prim.Native.Nat.{◌+◌}
use mathlib.Core.Path.{◌≡◌}
use lib.ListN.{length, drop}
use Rattle.values.specs.Spelling.{spell_value}
use Rattle.storing.proofs.Putting.{Going}
use Rattle.storing.proofs.put_value.Given as goal

abbrev pub invariant-loop-b : goal.invariant-loop-b
invariant-loop-b g l = Going g.S.Sink.holds g.S.Sink.room l.initial.buffer l.buffer l.at l.end (spell_value l.c l.value) (spell_value l.c (drop l.b-index l.value))
    × (l.end + length (spell_value l.c (drop l.b-index l.value)) ≡ l.at + length (spell_value l.c l.value))
