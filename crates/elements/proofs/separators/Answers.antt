-- `elements::separators` meets its contract. The loop's invariant: the bytes before `number` pass as many elements as the sum says, and none of
-- them adds more than 15. Assumes nothing.
use Prim.Native.Nat.{ℕ, ◌+◌}
use mathlib.Core.Path.{◌≡◌, sym, subst}
use native.Mathlib.Omega.{arith}
use lib.ListN.{get_or}
use Rattle.elements.specs.Sixteen.{Separators}
use Rattle.elements.proofs.Sixteen.{weight_most, separators_none, separators_next}
use Rattle.elements.proofs.separators.Goals as goal

pub loop-number-init : goal.loop-number-init
loop-number-init c =
    let x = c.args in
    (omega arith, subst (λ (p : ℕ). Separators x.c x.s.now x.from p 0) (omega arith) (separators_none x.c x.s.now x.from))

pub overflow_add-sum : goal.overflow_add-sum
overflow_add-sum c =
    let x = c.args in
    let number = c.loop-number.number in
    omega (arith, c.weight-sum.ensures, weight_most x.c (get_or x.s.now (x.from + number) 0))

pub loop-number-preserved : goal.loop-number-preserved
loop-number-preserved c =
    let loop = c.loop-number in
    let x = c.args in
    let b = get_or x.s.now (x.from + loop.number) 0 in
    let next : x.from + loop.number + 1 ≡ x.from + (loop.number + 1) = omega arith in (
      omega (arith, c.weight-sum.ensures, weight_most x.c b),
      subst (λ (p : ℕ). Separators x.c x.s.now x.from p (loop.sum + c.weight-sum.result)) next
          (subst (λ (w : ℕ). Separators x.c x.s.now x.from (x.from + loop.number + 1) (loop.sum + w)) (sym c.weight-sum.ensures)
          (separators_next x.c x.s.now (x.from + loop.number) (omega arith) x.from loop.sum loop.invariant.1)),
    )

pub returns : goal.returns
returns c =
    let x = c.args in
    subst (λ (n : ℕ). Separators x.c x.s.now x.from (x.from + n) c.loop-number.sum) (omega arith) c.loop-number.invariant.1
