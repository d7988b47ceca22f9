-- `line_breaks::after_breaks` meets its contract: after the last byte, and at a byte above both breaks, none stands. Assumes nothing.
use native.Mathlib.Omega.{arith}
use Rattle.line_breaks.proofs.Passing.{after_high, after_all_lem}
use Rattle.line_breaks.proofs.after_breaks.Goals.{then-s-from-via-then-s-from, then-s-from-via-else-s-from+then-s-from-gt13}
use Rattle.line_breaks.proofs.after_breaks.Goals as goal

pub returns-then-s-from : goal.returns-then-s-from
returns-then-s-from c =
    let x = c.args in
    elim c.then-s-from.branch [
      | then-s-from-via-then-s-from w ↦ after_all_lem x.s.now x.from w.if-s-from.true
      | then-s-from-via-else-s-from+then-s-from-gt13 w ↦ after_high x.s.now x.from (omega (arith, w.if-s-from.false)) w.if-s-from-gt13.true
    ]
