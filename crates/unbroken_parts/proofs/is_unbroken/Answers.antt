-- `unbroken_parts::is_unbroken` meets its contract. The loop's invariant: where none below the space was found, none stands up to `at`. Assumes nothing.
use Prim.Native.Nat.{ℕ, ◌+◌}
use mathlib.Core.Path.{◌≡◌, ap, ◌∙◌}
use native.Mathlib.Omega.{arith}
use native.Mathlib.Decide.{dec_le}
use native.Mathlib.Nat.{lt_of_not-le}
use lib.Dec.{leb}
use lib.ListN.{get_or}
use Rattle.lists.proofs.Texts.{and_left, and_right}
use Rattle.unbroken_parts.proofs.is_unbroken.Goals as goal

pub loop-at-init : goal.loop-at-init
loop-at-init c e k l m = absurd (omega arith)

pub loop-at-preserved : goal.loop-at-preserved
loop-at-preserved c e k l m =
    let s = c.args.s.now in
    let state = c.loop-at in
    let byte = leb 32 (get_or s state.at 0) in
    elim (dec_le (k + 1) state.at) [
      | yes q ↦ state.invariant (and_left state.whole byte e) k l (omega arith)
      | no q ↦ let there : k ≡ state.at = omega (arith, lt_of_not-le q) in ap (λ (p : ℕ). leb 32 (get_or s p 0)) there ∙ and_right state.whole byte e
    ]

pub returns : goal.returns
returns c e k l m = c.loop-at.invariant e k l (omega arith)
