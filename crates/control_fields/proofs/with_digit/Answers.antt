-- `control_fields::with_digit` meets its contract: the number stays after the sixth byte; before it there is room for a digit more.
-- Assumes nothing.
use native.Mathlib.Omega.{arith}
use borrow.Author.Tests.{lt-ltb, le-ltb}
use Rattle.control_fields.specs.Reading.{with_digit}
use Rattle.control_fields.proofs.Bytes.{five_spell}
use Rattle.control_fields.proofs.with_digit.Goals as goal

pub returns-then-f-ge6 : goal.returns-then-f-ge6
unfolding with_digit
returns-then-f-ge6 c = simp (le-ltb _ _ c.if-f-ge6.true)

pub overflow_mul-result : goal.overflow_mul-result
overflow_mul-result c =
    let h = five_spell c.args.f c.requires.1 (omega arith) in
    omega arith

pub overflow_add-result : goal.overflow_add-result
overflow_add-result c =
    let h = five_spell c.args.f c.requires.1 (omega arith) in
    omega arith

pub returns-else-f-ge6 : goal.returns-else-f-ge6
unfolding with_digit
returns-else-f-ge6 c = simp (lt-ltb _ _ c.if-f-ge6.false) (omega arith)
