-- Sums over the numbers below a number, and what changes where one of them changes. Assumes nothing.
use Rattle.std.specs.Prelude.{if◌then◌else◌}
use Prim.Native.Nat.{ℕ, zero, suc, ◌+◌, ◌≤◌, ◌<◌}
use mathlib.Core.Path.{◌≡◌, refl, sym, ap, ◌∙◌}
use mathlib.Core.Bool.{Bool, true, false}
use mathlib.Core.List.{List, [], ◌∷◌, ◌++◌, map, map-append}
use mathlib.Core.Logic.{⊎_elim}
use native.Mathlib.Omega.{arith}
use lib.Dec.{eqb}
use Rattle.lists.specs.Lists.{those}
use Rattle.lists.proofs.Tests.{says_eq, decides}
use Rattle.shelves.specs.Layout.{below, total}

pub total_append : (xs ys : List ℕ) → total (xs ++ ys) ≡ total xs + total ys
unfolding total
total_append [] ys = omega arith
total_append (x ∷ xs) ys = let e = total_append xs ys in omega arith

-- a sum over those that pass a test is a sum over all, in which the others count nothing
pub total_those : (t : ℕ → Bool) (f : ℕ → ℕ) (ks : List ℕ) → total (map f (those t ks)) ≡ total (map (λ k. if t k then f k else 0) ks)
unfolding total those
total_those t f [] = refl
total_those t f (k ∷ ks) = step (t k) (total_those t f ks)
  where
    step : (b : Bool) → total (map f (those t ks)) ≡ total (map (λ j. if t j then f j else 0) ks)
        → total (map f (if b then k ∷ those t ks else those t ks)) ≡ (if b then f k else 0) + total (map (λ j. if t j then f j else 0) ks)
    step true ih = ap (λ (n : ℕ). f k + n) ih
    step false ih = omega arith

abbrev pub sum_below : ℕ → (ℕ → ℕ) → ℕ
sum_below n v = total (map v (below n))

pub sum_next : (n : ℕ) (v : ℕ → ℕ) → sum_below (suc n) v ≡ sum_below n v + v n
unfolding below total
sum_next n v =
    ap total (map-append v (below n) (n ∷ [])) ∙ total_append (map v (below n)) (v n ∷ []) ∙ omega arith

module _ (v w : ℕ → ℕ) where
  pub sum_same : (n : ℕ) → ((k : ℕ) → k < n → v k ≡ w k) → sum_below n v ≡ sum_below n w
  unfolding below total
  sum_same zero h = refl
  sum_same (suc n) h =
      let ih : sum_below n v ≡ sum_below n w = sum_same n (λ k i. h k (omega arith)) in
      omega (arith, sum_next n v, sum_next n w, h n (omega arith))

  -- where all but one are the same, the sums differ as that one does
  pub sum_but_one : (n i : ℕ) → i < n → ((k : ℕ) → k < n → (k ≡ i → ⊥) → v k ≡ w k) → sum_below n v + w i ≡ sum_below n w + v i
  sum_but_one zero i l h = absurd (omega arith)
  sum_but_one (suc n) i l h =
      ⊎_elim
      (λ (e : i ≡ n).
      let same : sum_below n v ≡ sum_below n w = sum_same n (λ k m. h k (omega arith) (λ d. omega arith)) in
      omega (arith, sum_next n v, sum_next n w, ap v e, ap w e))
      (λ (d : i ≡ n → ⊥).
      let ih : sum_below n v + w i ≡ sum_below n w + v i = sum_but_one n i (omega arith) (λ k m. h k (omega arith)) in
      omega (arith, sum_next n v, sum_next n w, h n (omega arith) (λ e. d (sym e))))
      (decides (eqb i n) (says_eq i n))

-- one of them is at most the sum
pub sum_least : (v : ℕ → ℕ) (n i : ℕ) → i < n → v i ≤ sum_below n v
sum_least v zero i l = absurd (omega arith)
sum_least v (suc n) i l =
    ⊎_elim
    (λ (e : i ≡ n). omega (arith, sum_next n v, ap v e))
    (λ (d : i ≡ n → ⊥). let ih = sum_least v n i (omega arith) in omega (arith, sum_next n v))
    (decides (eqb i n) (says_eq i n))
