-- `length_bound::part_unshared` meets its contract. The loop's invariant: what is counted, and what is left from `b` on, is what was there from
-- the start; and no more is counted than bytes were passed. Assumes nothing.
use mathlib.Core.Path.{ap}
use native.Mathlib.Omega.{arith}
use mir.Val.{bool_byte}
use Rattle.storing.proofs.Stores.{bit_most}
use Rattle.length_bound.specs.Unshared.{is_unshared}
use Rattle.length_bound.proofs.Counted.{counted_next, counted_end}
use Rattle.length_bound.proofs.part_unshared.Goals as goal

pub loop-b-preserved : goal.loop-b-preserved
loop-b-preserved c =
    let x = c.args in
    let next = counted_next (is_unshared x.n x.u) x.part.now c.loop-b.b-index (omega arith) in
    let found = ap bool_byte c.is_unshared.ensures in
    let bit = bit_most c.is_unshared.result in
    let h = c.from-count.ensures in
    (omega arith, omega arith)

pub returns : goal.returns
returns c =
    let x = c.args in
    let end = counted_end (is_unshared x.n x.u) x.part.now c.loop-b.b-index (omega arith) in
    omega arith
