-- `control_fields::field_at` meets its contract. The loop's invariant: what was read from the start is what the field so far makes of the
-- value from `at` on, and there is room for one byte more. What is left of the input falls. Assumes nothing.
use Prim.Native.Nat.{◌-◌}
use lib.ListN.{length}
use Rattle.control_fields.proofs.Loops.{Reads}
use Rattle.control_fields.proofs.field_at.Given as goal

abbrev pub invariant-loop-byte : goal.invariant-loop-byte
invariant-loop-byte l = Reads l.c l.s l.from l.at l.f

abbrev pub decreases-loop-byte : goal.decreases-loop-byte
decreases-loop-byte l = length l.s - l.at
