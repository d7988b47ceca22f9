-- An empty shelf, as Start leaves it. Assumes nothing.
use Rattle.std.specs.Prelude.{Ok, Err}
use Prim.Native.Nat.{ℕ, zero, suc, ◌-◌, ◌≤◌}
use mathlib.Core.Path.{◌≡◌, sym, ap, ◌∙◌}
use mathlib.Core.Bool.{Bool, true, false}
use mathlib.Core.List.{List, ◌++◌, append-nil}
use native.Mathlib.Omega.{arith}
use lib.ListN.{length, drop, replicate, length-replicate, drop_of_length-le}
use lib.Seq.{sets}
use Rattle.operations.specs.Judge.{stored_in}
use Rattle.operations.proofs.Answered.{front_stored}
use Rattle.shelves.specs.Layout.{Layout, heading}
use Rattle.shelves.specs.Soundness.{is_sized}
use Rattle.shelves.specs.Answers.{told_outcome}
use Rattle.shelves.specs.Operations.{empty_shelf}
use Rattle.shelves.proofs.Answered.{nineteen, start_refused, start_done}
use Rattle.shelves.proofs.Stored.{heading_length}
use Rattle.shelf_contracts.specs.Promises.{Starts}

drop_replicate : (n k x : ℕ) → drop k (replicate n x) ≡ replicate (n - k) x
drop_replicate n zero x = ap (λ (m : ℕ). replicate m x) all
  where
    all : n ≡ n - 0
    all = omega arith
drop_replicate zero (suc k) x = ap (λ (m : ℕ). replicate m x) none_left
  where
    none_left : 0 ≡ 0 - suc k
    none_left = omega arith
drop_replicate (suc n) (suc k) x = drop_replicate n k x ∙ ap (λ (m : ℕ). replicate m x) one_less
  where
    one_less : n - k ≡ suc n - suc k
    one_less = omega arith

-- zeros all over
zeroed : (s : List ℕ) → sets s 0 (replicate (length s) 0) ≡ replicate (length s) 0
unfolding stored_in
zeroed s =
    let n = length-replicate {A = ℕ} (length s) 0 in
    front_stored s (replicate (length s) 0) (omega arith)
    ∙ ap (λ (r : List ℕ). replicate (length s) 0 ++ r) (drop_of_length-le s {i = length (replicate {A = ℕ} (length s) 0)} (omega arith))
    ∙ append-nil (replicate (length s) 0)

module _ (l : Layout) (s : List ℕ) where
  pub starts_refused : {r : Bool} → r ≡ is_sized l s → r ≡ false → Starts l s (Err nineteen) s
  unfolding told_outcome
  starts_refused e f = let d = start_refused l s (sym e ∙ f) in (sym d.0, sym d.1)

  pub starts_empty : {r : Bool} {zeros after : List ℕ} → r ≡ is_sized l s → r ≡ true → 5 ≤ length s → zeros ≡ sets s 0 (replicate (length s) 0)
      → after ≡ sets zeros 0 (heading l) → Starts l s (Ok tt) after
  unfolding told_outcome empty_shelf stored_in
  starts_empty {zeros = zeros} e f h z p =
      let d = start_done l s (sym e ∙ f) in
      let zs : zeros ≡ replicate (length s) 0 = z ∙ zeroed s in
      let room : length (heading l) ≤ length zeros = omega (arith, heading_length l, ap length zs, length-replicate {A = ℕ} (length s) 0) in (
        sym d.0,
        p
            ∙ front_stored zeros (heading l) room
            ∙ ap (λ (x : List ℕ). heading l ++ drop (length (heading l)) x) zs
            ∙ ap (λ (x : List ℕ). heading l ++ x) (drop_replicate (length s) (length (heading l)) 0)
            ∙ sym d.1,
      )
