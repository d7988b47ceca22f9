-- The numbers below a number that pass a test, as the slots of a shelf do, and what is asked of each of them and of any two. Assumes nothing.
use Rattle.std.specs.Prelude.{if◌then◌else◌}
use Prim.Native.Nat.{ℕ, zero, suc, ◌<◌}
use mathlib.Core.Path.{◌≡◌, refl, sym, ap, subst, ◌∙◌}
use mathlib.Core.Bool.{Bool, true, false, ◌&&◌, true≢false}
use mathlib.Core.List.{List, [], ◌∷◌, ◌++◌, append-nil, Memᴰ}
use mathlib.Core.Option.{some, none-ne-some}
use mathlib.Core.Logic.{◌⊎◌, inl, inr, ⊎_elim, ◌↔◌}
use native.Mathlib.Omega.{arith}
use lib.Dec.{eqb}
use Rattle.lists.specs.Lists.{all, those, at}
use Rattle.lists.proofs.Texts.{if_true, if_false, decided, all_append}
use Rattle.lists.proofs.Tests.{Says, says_as, says_both, says_all, says_eq, decides}
use Rattle.shelves.specs.Layout.{below}
use Rattle.shelves.specs.Soundness.{each_two}

-- ---- the numbers below a number

pub below_has : (n k : ℕ) → Memᴰ k (below n) ↔ (k < n)
unfolding below
below_has zero k = (λ m. absurd (mathlib.Core.List.Memᴰ.not-nil m), λ h. absurd (omega arith))
below_has (suc n) k = (
  λ m.
      ⊎_elim
      (λ (i : Memᴰ k (below n)). let h : k < n = (below_has n k).0 i in omega arith)
      (λ (i : Memᴰ k (n ∷ [])). let e : k ≡ n = mathlib.Core.List.Memᴰ.eq_of_singleton i in omega arith)
      (mathlib.Core.List.Memᴰ.append_cases (below n) m),
  λ h.
      ⊎_elim
      (λ (e : k ≡ n). mathlib.Core.List.Memᴰ.append_right (below n) (mathlib.Core.List.Memᴰ.head e))
      (λ (d : k ≡ n → ⊥). mathlib.Core.List.Memᴰ.append_left (n ∷ []) ((below_has n k).1 (omega arith)))
      (decides (eqb k n) (says_eq k n)),
)

-- ---- those that pass a test

module _ (t : ℕ → Bool) where
  pub those_has : (ks : List ℕ) (k : ℕ) → Memᴰ k (those t ks) ↔ (Memᴰ k ks × (t k ≡ true))
  unfolding those
  those_has [] k = (λ m. absurd (mathlib.Core.List.Memᴰ.not-nil m), λ h. absurd (mathlib.Core.List.Memᴰ.not-nil h.0))
  those_has (j ∷ js) k = step (t j) refl (those_has js k)
    where
      step : (b : Bool) → t j ≡ b → Memᴰ k (those t js) ↔ (Memᴰ k js × (t k ≡ true))
          → Memᴰ k (if b then j ∷ those t js else those t js) ↔ (Memᴰ k (j ∷ js) × (t k ≡ true))
      step true e ih = (
        λ m.
            ⊎_elim
            (λ (i : k ≡ j). (mathlib.Core.List.Memᴰ.head i, subst (λ (x : ℕ). t x ≡ true) (sym i) e))
            (λ (i : Memᴰ k (those t js)). let h = ih.0 i in (mathlib.Core.List.Memᴰ.tail h.0, h.1))
            (mathlib.Core.List.Memᴰ.cases_cons m),
        λ h.
            ⊎_elim
            (λ (i : k ≡ j). mathlib.Core.List.Memᴰ.head i)
            (λ (i : Memᴰ k js). mathlib.Core.List.Memᴰ.tail (ih.1 (i, h.1)))
            (mathlib.Core.List.Memᴰ.cases_cons h.0),
      )
      step false e ih = (
        λ m. let h = ih.0 m in (mathlib.Core.List.Memᴰ.tail h.0, h.1),
        λ h.
            ⊎_elim
            (λ (i : k ≡ j). absurd (true≢false (sym h.1 ∙ ap t i ∙ e)))
            (λ (i : Memᴰ k js). ih.1 (i, h.1))
            (mathlib.Core.List.Memᴰ.cases_cons h.0),
      )

  pub passing_has : (n k : ℕ) → Memᴰ k (those t (below n)) ↔ ((k < n) × (t k ≡ true))
  passing_has n k = (
    λ m. let h = (those_has (below n) k).0 m in ((below_has n k).0 h.0, h.1),
    λ h. (those_has (below n) k).1 ((below_has n k).1 h.0, h.1),
  )

  -- the last number comes last
  those_last : (ks : List ℕ) (k : ℕ) → those t (ks ++ k ∷ []) ≡ those t ks ++ (if t k then k ∷ [] else [])
  unfolding those
  those_last [] k = refl
  those_last (j ∷ js) k = step (t j) (those_last js k)
    where
      step : (b : Bool) → those t (js ++ k ∷ []) ≡ those t js ++ (if t k then k ∷ [] else [])
          → (if b then j ∷ those t (js ++ k ∷ []) else those t (js ++ k ∷ [])) ≡ (if b then j ∷ those t js else those t js) ++ (if t k then k ∷ [] else [])
      step true ih = ap (λ (l : List ℕ). j ∷ l) ih
      step false ih = ih

  pub passing_next : (n : ℕ) → t n ≡ true → those t (below (suc n)) ≡ those t (below n) ++ n ∷ []
  unfolding below
  passing_next n e = those_last (below n) n ∙ ap (λ (l : List ℕ). those t (below n) ++ l) (if_true (t n) (n ∷ []) [] e)

  pub passing_skip : (n : ℕ) → t n ≡ false → those t (below (suc n)) ≡ those t (below n)
  unfolding below
  passing_skip n e =
      those_last (below n) n
      ∙ ap (λ (l : List ℕ). those t (below n) ++ l) (if_false (t n) (n ∷ []) [] e)
      ∙ append-nil (those t (below n))

  -- ---- what is asked of each

  module _ {P : ℕ → Type 0} (p : ℕ → Bool) (h : (k : ℕ) → Says (p k) (P k)) where
    pub says_each : (n : ℕ) → Says (all p (those t (below n))) ((k : ℕ) → k < n → t k ≡ true → P k)
    says_each n =
        says_as (says_all p h (those t (below n)))
        (λ f k i e. f k ((passing_has n k).1 (i, e)))
        (λ f k m. let b = (passing_has n k).0 m in f k b.0 b.1)

-- ---- what is asked of any two

-- one more at the end is asked of with each before it
two_last : (u : ℕ → ℕ → Bool) (ks : List ℕ) (k : ℕ) → each_two u (ks ++ k ∷ []) ≡ (each_two u ks && all (λ j. u j k) ks)
unfolding each_two all
two_last u [] k = refl
two_last u (j ∷ js) k =
    ap (λ (b : Bool). b && each_two u (js ++ k ∷ [])) (all_append (u j) js (k ∷ []))
    ∙ ap (λ (b : Bool). (all (u j) js && (u j k && true)) && b) (two_last u js k)
    ∙ regroup (all (u j) js) (u j k) (each_two u js) (all (λ i. u i k) js)
  where
    regroup : (a b c d : Bool) → ((a && (b && true)) && (c && d)) ≡ ((a && c) && (b && d))
    regroup true true c d = refl
    regroup true false true d = refl
    regroup true false false d = refl
    regroup false b c d = refl

module _ (t : ℕ → Bool) (u : ℕ → ℕ → Bool) {P : ℕ → ℕ → Type 0} (h : (j k : ℕ) → Says (u j k) (P j k)) where
  -- any two numbers below n that pass, the lower first
  abbrev Pairs : ℕ → Type 0
  Pairs n = (j k : ℕ) → j < k → k < n → t j ≡ true → t k ≡ true → P j k

  pub says_two : (n : ℕ) → Says (each_two u (those t (below n))) (Pairs n)
  unfolding below those each_two
  says_two zero = (λ e j k i m. absurd (omega arith), λ f. refl)
  says_two (suc n) = ⊎_elim (with_last (says_two n)) (without_last (says_two n)) (decided (t n))
    where
      with_last : Says (each_two u (those t (below n))) (Pairs n) → t n ≡ true → Says (each_two u (those t (below (suc n)))) (Pairs (suc n))
      with_last ih e =
          subst (λ (b : Bool). Says b (Pairs (suc n))) (sym (ap (each_two u) (passing_next t n e) ∙ two_last u (those t (below n)) n))
          (says_as
          (says_both (each_two u (those t (below n))) (all (λ j. u j n) (those t (below n))) ih (says_each t (λ j. u j n) (λ j. h j n) n))
          (λ f j k i m a b.
          ⊎_elim
          (λ (q : k ≡ n). subst (λ (x : ℕ). P j x) (sym q) (f.1 j (omega arith) a))
          (λ (q : k ≡ n → ⊥). f.0 j k i (omega arith) a b)
          (decides (eqb k n) (says_eq k n)))
          (λ f. (λ j k i m. f j k i (omega arith), λ j i a. f j n i (omega arith) a e)))

      without_last : Says (each_two u (those t (below n))) (Pairs n) → t n ≡ false → Says (each_two u (those t (below (suc n)))) (Pairs (suc n))
      without_last ih e =
          subst (λ (b : Bool). Says b (Pairs (suc n))) (sym (ap (each_two u) (passing_skip t n e)))
          (says_as ih
          (λ f j k i m a b.
          ⊎_elim
          (λ (q : k ≡ n). absurd (true≢false (sym b ∙ ap t q ∙ e)))
          (λ (q : k ≡ n → ⊥). f j k i (omega arith) a b)
          (decides (eqb k n) (says_eq k n)))
          (λ f j k i m. f j k i (omega arith)))

-- ---- the lowest

module _ (t : ℕ → Bool) where
  -- k is the lowest number below n that passes
  pub record Lowest (n k : ℕ) : Type 0 where
    pub within : k < n
    pub passes : t k ≡ true
    pub lower : (j : ℕ) → j < k → t j ≡ false

  -- the first of those that pass is the lowest; where there is none, none passes
  pub lowest_passing : (n : ℕ)
      → ((those t (below n) ≡ []) × ((k : ℕ) → k < n → t k ≡ false)) ⊎ ((k : ℕ) × (at (those t (below n)) 0 ≡ some k) × Lowest n k)
  unfolding below those at
  lowest_passing zero = inl (refl, λ k h. absurd (omega arith))
  lowest_passing (suc n) = ⊎_elim none_before (λ f. inr (f.0, (one_before f).0, (one_before f).1)) (lowest_passing n)
    where
      none_before : (those t (below n) ≡ []) × ((k : ℕ) → k < n → t k ≡ false)
          → ((those t (below (suc n)) ≡ []) × ((k : ℕ) → k < suc n → t k ≡ false))
          ⊎ ((k : ℕ) × (at (those t (below (suc n))) 0 ≡ some k) × Lowest (suc n) k)
      none_before f =
          ⊎_elim
          (λ (e : t n ≡ true).
          inr (
            n,
            ap (λ (l : List ℕ). at l 0) (passing_next t n e ∙ ap (λ (l : List ℕ). l ++ n ∷ []) f.0),
            record { within = omega arith; passes = e; lower = f.1 },
          ))
          (λ (e : t n ≡ false).
          inl (
            passing_skip t n e ∙ f.0,
            λ k h.
                ⊎_elim (λ (q : k ≡ n). ap t q ∙ e) (λ (q : k ≡ n → ⊥). f.1 k (omega arith)) (decides (eqb k n) (says_eq k n)),
          ))
          (decided (t n))

      longer : (l more : List ℕ) (k : ℕ) → at l 0 ≡ some k → at (l ++ more) 0 ≡ some k
      longer [] more k e = absurd (none-ne-some k e)
      longer (x ∷ xs) more k e = e

      one_before : (f : (k : ℕ) × (at (those t (below n)) 0 ≡ some k) × Lowest n k)
          → (at (those t (below (suc n))) 0 ≡ some f.0) × Lowest (suc n) f.0
      one_before f = (
        ⊎_elim
            (λ (e : t n ≡ true). ap (λ (l : List ℕ). at l 0) (passing_next t n e) ∙ longer (those t (below n)) (n ∷ []) f.0 f.1)
            (λ (e : t n ≡ false). ap (λ (l : List ℕ). at l 0) (passing_skip t n e) ∙ f.1)
            (decided (t n)),
        record { within = let h = f.2.within in omega arith; passes = f.2.passes; lower = f.2.lower },
      )
