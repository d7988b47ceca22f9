-- `trimmed_values::same_value` meets its contract. The loop's invariant: the values are the same from the starts if they are from `a` and `b`.
-- What is left of the input after `a` falls. Assumes nothing.
use mathlib.Core.Path.{refl, sym, ◌∙◌}
use native.Mathlib.Omega.{arith}
use Rattle.elements.proofs.Values.{next_as}
use Rattle.trimmed_values.proofs.Same.{same_ended, same_longer, same_byte, same_not}
use Rattle.trimmed_values.proofs.same_value.Goals as goal

pub loop-byte-init : goal.loop-byte-init
loop-byte-init c = refl

pub returns-in_default : goal.returns-in_default
returns-in_default c =
    let n = next_as _ _ _ c.byte_at.ensures c.in_default.is in
    c.is_ended.ensures
    ∙ same_ended _ _ _ c.byte_at-in_default.result n.0 c.byte_at-in_default.ensures
    ∙ sym c.loop-byte.invariant

pub returns-in_default-byte_at : goal.returns-in_default-byte_at
returns-in_default-byte_at c =
    let n = next_as _ _ _ c.byte_at.ensures c.in-Byte.is in
    let m = next_as _ _ _ c.byte_at-in-loop-byte.ensures c.in_default-byte_at.is in
    sym (c.loop-byte.invariant ∙ same_longer n.0 m.0)

pub returns-then-byte-other : goal.returns-then-byte-other
returns-then-byte-other c =
    let n = next_as _ _ _ c.byte_at.ensures c.in-Byte.is in
    let m = next_as _ _ _ c.byte_at-in-loop-byte.ensures c.in-Byte-byte_at.is in
    sym (c.loop-byte.invariant ∙ same_not n.0 m.0 c.if-byte-other.true)

pub loop-byte-smaller : goal.loop-byte-smaller
loop-byte-smaller c =
    let n = next_as _ _ _ c.byte_at.ensures c.in-Byte.is in
    let m = next_as _ _ _ c.byte_at-in-loop-byte.ensures c.in-Byte-byte_at.is in
    omega arith

pub loop-byte-preserved : goal.loop-byte-preserved
loop-byte-preserved c =
    let n = next_as _ _ _ c.byte_at.ensures c.in-Byte.is in
    let m = next_as _ _ _ c.byte_at-in-loop-byte.ensures c.in-Byte-byte_at.is in
    c.loop-byte.invariant ∙ same_byte n.0 m.0 c.if-byte-other.false
