-- `parting::sums_of` meets its contract. The loop's invariant: the sums of the slots passed are there. Assumes nothing.
-- one more is there
use native.Mathlib.Omega.{arith}
use Prim.Native.Nat.{ℕ, ◌+◌, ◌<◌}
use mathlib.Core.Path.{◌≡◌, refl, sym, ap, ◌∙◌}
use Rattle.shelf_layout.specs.Laid.{laid}
use lib.ListN.{length, get_or, set, length-set}
use Rattle.shelf_soundness.specs.Clauses.{sum_in}
use mathlib.Core.List.{List}
use mathlib.Core.Logic.{⊎_elim}
use lib.Dec.{eqb}
use lib.Seq.{get_or-set_same, get_or-set_other}
use Rattle.lists.proofs.Tests.{says_eq, decides}
use Rattle.shelf_soundness.proofs.parting.sums_of.Goals as goal

stored : (sums : List ℕ) (n : ℕ) (v : ℕ → ℕ) {x : ℕ} → n < length sums → ((k : ℕ) → k < n → get_or sums k 0 ≡ v k) → x ≡ v n
    → (k : ℕ) → k < n + 1 → get_or (set sums n x) k 0 ≡ v k
stored sums n v {x} h f e k i =
    ⊎_elim
    (λ (q : k ≡ n). ap (λ (j : ℕ). get_or (set sums n x) j 0) q ∙ get_or-set_same sums n x 0 h ∙ e ∙ ap v (sym q))
    (λ (d : k ≡ n → ⊥). get_or-set_other sums n k x 0 d ∙ f k (omega arith))
    (decides (eqb k n) (says_eq k n))

pub loop-slot-init : goal.loop-slot-init
loop-slot-init c = (refl, λ k h. absurd (omega arith))

pub sum_in-requires : goal.sum_in-requires
sum_in-requires c = (c.requires.0, c.requires.1, omega arith)

pub loop-slot-preserved : goal.loop-slot-preserved
loop-slot-preserved c =
    let x = c.args in
    let state = c.loop-slot in (
      length-set state.sums state.slot c.sum_in.result ∙ state.invariant.0,
      stored state.sums state.slot (sum_in (laid x.l) x.s.now) (omega arith) state.invariant.1 c.sum_in.ensures,
    )

pub returns : goal.returns
returns c = λ k h. c.loop-slot.invariant.1 k (omega arith)
