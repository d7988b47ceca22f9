-- `line_breaks::part_length` meets its contract. The loop's invariant: what is counted, and what is left from `b` on, is what was there from
-- the start; and no more is counted than bytes were passed. Assumes nothing.
use native.Mathlib.Omega.{arith}
use lib.Dec.{leb}
use lib.ListN.{get_or}
use Rattle.storing.proofs.Stores.{bit_most}
use Rattle.line_breaks.proofs.Unbroken.{unbroken_next, unbroken_end}
use Rattle.line_breaks.proofs.part_length.Goals as goal

pub loop-b-preserved : goal.loop-b-preserved
loop-b-preserved c =
    let part = c.args.part.now in
    let i = c.loop-b.b-index in
    let next = unbroken_next part i (omega arith) in
    let bit = bit_most (leb 32 (get_or part i 0)) in
    (omega arith, omega arith)

pub returns : goal.returns
returns c = omega (arith, unbroken_end c.args.part.now c.loop-b.b-index (omega arith))
