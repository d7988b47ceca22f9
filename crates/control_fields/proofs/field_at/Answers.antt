-- `control_fields::field_at` meets its contract. The loop's invariant: what was read from the start is what the field so far makes of the
-- value from `at` on, and there is room for one byte more. What is left of the input falls. Assumes nothing.
use mathlib.Core.Path.{refl}
use native.Mathlib.Omega.{arith}
use Rattle.elements.proofs.Values.{next_as}
use Rattle.control_fields.proofs.Loops.{reads_byte, reads_end}
use Rattle.control_fields.proofs.field_at.Goals as goal

pub loop-byte-init : goal.loop-byte-init
loop-byte-init c = (refl, refl, omega arith, omega arith)

pub with_byte-f-requires : goal.with_byte-f-requires
with_byte-f-requires c =
    let n = next_as _ _ _ c.byte_at.ensures c.in-Byte.is in
    (omega arith, c.loop-byte.invariant.3)

pub loop-byte-smaller : goal.loop-byte-smaller
loop-byte-smaller c =
    let n = next_as _ _ _ c.byte_at.ensures c.in-Byte.is in
    omega arith

pub loop-byte-preserved : goal.loop-byte-preserved
loop-byte-preserved c =
    let n = next_as _ _ _ c.byte_at.ensures c.in-Byte.is in
    reads_byte _ _ _ _ _ c.loop-byte.invariant n (omega arith) c.with_byte-f.ensures

pub returns-in-Ended : goal.returns-in-Ended
returns-in-Ended c =
    let n = next_as _ _ _ c.byte_at.ensures c.in-Ended.is in
    reads_end _ _ _ _ _ c.loop-byte.invariant _ n c.is_alone.ensures
