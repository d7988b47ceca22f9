-- `stretches::stretch_end` meets its contract: a stretch passes over thirty-two bytes at a time and then over the last few, and its bytes up to
-- the last one of a value are emitted byte for byte. Assumes nothing.
use Prim.Native.Nat.{◌-◌}
use native.Mathlib.Omega.{arith}
use Rattle.stretches.proofs.Stretching.{stretched, passes_least, passes_inside, passes_more, goes_passes}
use Rattle.stretches.proofs.stretch_end.Goals as goal

pub back_to_value-requires : goal.back_to_value-requires
back_to_value-requires c =
    let x = c.args in
    let most = c.past_most-most.result in
    let (l, g) = c.past_last-to.ensures in
    let whole = passes_more x.c x.n x.s.now c.past_most-most.ensures
    (goes_passes x.c x.n x.s.now most (c.past_last-to.result - most) (omega arith) g) in
    (passes_least x.c x.n x.s.now whole, passes_inside x.c x.n x.s.now whole)

pub returns : goal.returns
returns c =
    let x = c.args in
    let most = c.past_most-most.result in
    let (l, g) = c.past_last-to.ensures in
    let whole = passes_more x.c x.n x.s.now c.past_most-most.ensures
    (goes_passes x.c x.n x.s.now most (c.past_last-to.result - most) (omega arith) g) in
    let (first, last, value) = c.back_to_value.ensures in
    stretched x.c x.n x.s.now whole first last value
