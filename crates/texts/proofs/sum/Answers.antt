-- `texts::sum` meets its contract. The loop's invariant: the sum is that of the bytes passed. Assumes nothing.
use Rattle.std.proofs.Common.{ℕ, ◌+◌, ◌∙◌, ap, refl, arith}
use Rattle.shelves.specs.Layout.{total}
use Rattle.texts.proofs.Sums.{sum_more}
use Rattle.texts.proofs.sum.Goals as goal

pub loop-b-init : goal.loop-b-init
unfolding total
loop-b-init c = (omega arith, refl)

pub loop-b-preserved : goal.loop-b-preserved
loop-b-preserved c =
    let s = c.args.s.now in
    let state = c.loop-b in (
      omega (arith, c.type_inv.s state.b-index, c.from-sum.ensures),
      ap (λ (b : ℕ). state.sum + b) c.from-sum.ensures ∙ sum_more s state.b-index state.sum (omega arith) state.invariant.1,
    )
