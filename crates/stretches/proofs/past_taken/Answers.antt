-- `stretches::past_taken` meets its contract. The loop's invariant: the stretch passes up to `at`. What is left of the input falls. Assumes
-- nothing.
use mathlib.Core.Path.{refl, sym, ◌∙◌}
use native.Mathlib.Omega.{arith}
use Rattle.stretches.specs.Releases.{stays}
use Rattle.stretches.proofs.Releasing.{taken_next}
use Rattle.stretches.proofs.past_taken.Goals as goal

pub loop-at-init : goal.loop-at-init
loop-at-init c = (omega arith, λ n v. stays refl)

pub loop-at-smaller : goal.loop-at-smaller
loop-at-smaller c = omega arith

pub loop-at-preserved : goal.loop-at-preserved
loop-at-preserved c =
    let x = c.args in
    let inv = c.loop-at.invariant in (
      omega arith,
      λ n v. taken_next x.c n v x.s.now (inv.1 n v) (omega arith) c.if-s-at.true (sym c.is_service.ensures ∙ c.if-is_service.true),
    )
