-- `length_bound::count_unshared` meets its contract. The loop's invariant: what is counted, and what is left, is what was there from the
-- start. What is left falls. Assumes nothing.
use Prim.Native.Nat.{ℕ, ◌+◌}
use mathlib.Core.Path.{◌≡◌, ap, ◌∙◌}
use mathlib.Core.Bool.{Bool}
use native.Mathlib.Omega.{arith}
use Rattle.length_bound.specs.Bound.{counted}
use Rattle.length_bound.specs.Unshared.{is_unshared}
use Rattle.length_bound.proofs.Counted.{counted_append, counted_most}
use Rattle.length_bound.proofs.count_unshared.Goals as goal

pub overflow_add-count : goal.overflow_add-count
overflow_add-count c =
    let t : ℕ → Bool = is_unshared c.args.n c.args.u in
    let (part, after) = c.split_at.result in
    let split : counted t c.loop-rest.rest.now ≡ counted t part.now + counted t after.now =
    ap (counted t) c.split_at.ensures.by_index.0 ∙ counted_append t part.now after.now in
    omega (arith, c.part_unshared.ensures, counted_most t c.args.s.now)

pub loop-rest-preserved : goal.loop-rest-preserved
loop-rest-preserved c =
    let t : ℕ → Bool = is_unshared c.args.n c.args.u in
    let (part, after) = c.split_at.result in
    let split : counted t c.loop-rest.rest.now ≡ counted t part.now + counted t after.now =
    ap (counted t) c.split_at.ensures.by_index.0 ∙ counted_append t part.now after.now in
    omega (arith, c.part_unshared.ensures)

pub overflow_add-result : goal.overflow_add-result
overflow_add-result c =
    omega (arith, c.part_unshared-2.ensures, counted_most (is_unshared c.args.n c.args.u) c.args.s.now)
