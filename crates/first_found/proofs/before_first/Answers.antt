-- `first_found::before_first` meets its contract. The loop's invariant: nothing is found up to the `k`th byte, unless `first` bytes come before
-- it. Assumes nothing.
use Rattle.std.proofs.Common.{false, subst, arith}
use Rattle.first_found.proofs.Firsts.{upto_next}
use Rattle.first_found.proofs.before_first.Goals as goal

pub loop-k-preserved : goal.loop-k-preserved
loop-k-preserved g c =
    let x = c.args in
    let state = c.loop-k in
    let found = c.found.result in (
      omega (arith, state.invariant.0, c.least-first.ensures.0),
      upto_next (λ j. goal.F-post g x.found j false) found state.first c.least-first.result state.invariant.1
          (λ none. subst (λ t. goal.F-post g x.found state.k t) none c.found.ensures) c.least-first.ensures.0
          (λ t. omega (arith, c.place_found.ensures t, c.least-first.ensures.1)),
    )

pub returns : goal.returns
returns g c =
    let inv = c.loop-k.invariant in
    (omega (arith, inv.0), λ k l. inv.1 k (omega arith) (omega (arith, inv.0)) (omega arith))
