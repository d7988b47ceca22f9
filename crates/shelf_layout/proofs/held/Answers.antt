-- `shelf_layout::held` meets its contract. Assumes nothing.
use native.Mathlib.Omega.{arith}
use Prim.Native.Nat.{ℕ, ◌+◌}
use mathlib.Core.Path.{◌≡◌, refl, ap, ◌∙◌}
use Rattle.shelves.specs.Layout.{below, total}
use Rattle.shelves.proofs.Sums.{sum_below}
use Rattle.shelf_layout.specs.Laid.{laid, kept_in}
use Rattle.shelf_layout.proofs.Readings.{held_is, sum_more}
use Rattle.shelf_layout.proofs.held.Goals as goal

pub loop-slot-init : goal.loop-slot-init
unfolding below total
loop-slot-init c = (omega arith, refl)

pub overflow_add-sum : goal.overflow_add-sum
overflow_add-sum c = omega (arith, c.kept_in-sum.ensures.1)

pub loop-slot-preserved : goal.loop-slot-preserved
loop-slot-preserved c =
    let x = c.args in
    let state = c.loop-slot in (
      omega (arith, c.kept_in-sum.ensures.1),
      ap (λ (n : ℕ). state.sum + n) c.kept_in-sum.ensures.0 ∙ sum_more (kept_in (laid x.l) x.s.now) state.slot state.sum state.invariant.1,
    )

pub returns : goal.returns
returns c =
    let x = c.args in
    let state = c.loop-slot in
    let all : state.slot ≡ 64 = omega arith in
    (state.invariant.1 ∙ ap (λ (n : ℕ). sum_below n (kept_in (laid x.l) x.s.now)) all ∙ held_is (laid x.l) x.s.now, omega arith)
