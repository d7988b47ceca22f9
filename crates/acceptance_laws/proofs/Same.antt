-- Compare says "same" exactly of interchanges that are the same, which is an equivalence of accepted ones; Keep hands back the
-- whole of the shorter one, or nothing. Assumes nothing.
use Rattle.std.specs.Prelude.{if◌then◌else◌}
use Prim.Native.Nat.{ℕ, ◌≤◌, ◌<◌}
use mathlib.Core.Path.{◌≡◌, refl, sym, ap, subst, ◌∙◌}
use mathlib.Core.Logic.{◌↔◌, ◌⊎◌, inl, inr, ⊎_elim}
use mathlib.Core.Bool.{Bool, true, false, false≢true}
use mathlib.Core.List.{List, [], ◌∷◌}
use mathlib.Core.Option.{Option, none, some}
use native.Mathlib.Omega.{arith}
use lib.ListN.{length, get_or}
use lib.Seq.{take-length}
use lib.Dec.{ltb}
use borrow.Author.Tests.{ltb-true, ltb-false}
use Rattle.lists.specs.Lists.{maybe}
use Rattle.lists.proofs.Texts.{if_true, if_false}
use Rattle.refusals.specs.declared.Refusal.{Refusal}
use Rattle.stages.specs.Stages.{refusal_of}
use Rattle.answers.specs.Answers.{Answer, given, refused_input}
use Rattle.operations.specs.Compare.{are_same, compare, Part, of_first, of_second, keep}
use Rattle.operations.proofs.Answered.{compare_by}
use Rattle.normal_form_laws.proofs.Theorems.{same_normal, same_exactly}
use Rattle.acceptance_laws.specs.Allowed.{Allowed}
use Rattle.acceptance_laws.specs.Same.{Same, handed}
use Rattle.acceptance_laws.proofs.Acceptance.{allowed_exactly}
use Rattle.refusals.proofs.Order.{number_not_zero}

-- 1 for "same", 0 for "different"
abbrev word : Bool → ℕ
word t = if t then 1 else 0

-- ---- an equivalence of accepted interchanges

pub same_self : {a : List ℕ} → Allowed a → Same a a
same_self h = record { first = h; second = h; normal = refl }

pub same_back : {a b : List ℕ} → Same a b → Same b a
same_back h = record { first = h.second; second = h.first; normal = sym h.normal }

pub same_on : {a b c : List ℕ} → Same a b → Same b c → Same a c
same_on h k = record { first = h.first; second = k.second; normal = h.normal ∙ k.normal }

module _ (a b : List ℕ) where
  -- ---- Compare

  same_test : (are_same a b ≡ true) ↔ Same a b
  same_test = (
    λ h.
        let (x, y, c, m) = (same_exactly a b).0 h in
        record { first = (allowed_exactly a).0 x; second = (allowed_exactly b).0 y; normal = (same_normal a b x y).1 (c, m) },
    λ h.
        let x = (allowed_exactly a).1 h.first in
        let y = (allowed_exactly b).1 h.second in
        let e = (same_normal a b x y).0 h.normal in
        (same_exactly a b).1 (x, y, e.0, e.1),
  )

  not_same : (Same a b → ⊥) → are_same a b ≡ false
  not_same h = step (are_same a b) refl
    where
      step : (t : Bool) → are_same a b ≡ t → t ≡ false
      step true e = absurd (h (same_test.0 e))
      step false e = refl

  -- the answer has the number 0 only where both are accepted
  compare_accepted : (compare a b).number ≡ 0 → Allowed a × Allowed b
  unfolding compare maybe refused_input
  compare_accepted h = step (refusal_of a) refl (refusal_of b) refl h
    where
      step : (o : Option Refusal) → refusal_of a ≡ o → (p : Option Refusal) → refusal_of b ≡ p
          → (maybe (maybe (given (word (are_same a b) ∷ [])) (refused_input 2) p) (refused_input 1) o).number ≡ 0
          → Allowed a × Allowed b
      step none e none f h = ((allowed_exactly a).0 e, (allowed_exactly b).0 f)
      step none e (some r) f h = absurd (number_not_zero r.fault h)
      step (some r) e p f h = absurd (number_not_zero r.fault h)

  compare_told : Allowed a → Allowed b → compare a b ≡ given (word (are_same a b) ∷ [])
  unfolding maybe
  compare_told h k = compare_by a b none none ((allowed_exactly a).1 h) ((allowed_exactly b).1 k)

  -- "same" exactly where they are the same
  pub compared_same : (compare a b ≡ given (1 ∷ [])) ↔ Same a b
  unfolding given
  compared_same = (
    λ h.
        let (k, l) = compare_accepted (ap (λ (x : Answer). x.number) h) in
        same_test.0 (step (are_same a b) (ap (λ (x : Answer). get_or x.values 0 0) (sym (compare_told k l) ∙ h))),
    λ h. compare_told h.first h.second ∙ ap (λ (t : Bool). given (word t ∷ [])) (same_test.1 h),
  )
    where
      step : (t : Bool) → word t ≡ 1 → t ≡ true
      step true e = refl
      step false e = absurd (omega arith)

  -- "different" exactly where both are accepted and are not the same
  pub compared_different : (compare a b ≡ given (0 ∷ [])) ↔ (Allowed a × Allowed b × (Same a b → ⊥))
  unfolding given
  compared_different = (
    λ h.
        let (k, l) = compare_accepted (ap (λ (x : Answer). x.number) h) in (
          k,
          l,
          λ s. step (are_same a b) (same_test.1 s) (ap (λ (x : Answer). get_or x.values 0 0) (sym (compare_told k l) ∙ h)),
        ),
    λ h. compare_told h.0 h.1 ∙ ap (λ (t : Bool). given (word t ∷ [])) (not_same h.2),
  )
    where
      step : (t : Bool) → t ≡ true → word t ≡ 0 → ⊥
      step true e k = omega arith
      step false e k = false≢true e

  -- ---- Keep

  abbrev shorter : Bool → Part
  shorter t = if t then of_second 0 (length b) else of_first 0 (length a)

  -- the first where it is not the longer, whole; else the second, whole
  abbrev Shorter : Part → Type 0
  Shorter k = ((k ≡ of_first 0 (length a)) × (length a ≤ length b)) ⊎ ((k ≡ of_second 0 (length b)) × (length b < length a))

  pub keep_same : Same a b → Shorter (keep a b)
  unfolding keep
  keep_same h =
      step (ltb (length b) (length a)) refl (if_true (are_same a b) (shorter (ltb (length b) (length a))) (of_first 0 0) (same_test.1 h))
    where
      step : (t : Bool) → ltb (length b) (length a) ≡ t → keep a b ≡ shorter t → Shorter (keep a b)
      step true e k = inr (k, ltb-true (length b) (length a) e)
      step false e k = inl (k, ltb-false (length b) (length a) e)

  -- "otherwise the first zero bytes of the first"
  pub keep_other : (Same a b → ⊥) → keep a b ≡ of_first 0 0
  unfolding keep
  keep_other h = if_false (are_same a b) (shorter (ltb (length b) (length a))) (of_first 0 0) (not_same h)

  -- the whole of the one that is not the longer
  pub kept : Same a b
      → ((handed a b (keep a b) ≡ a) × (length a ≤ length b)) ⊎ ((handed a b (keep a b) ≡ b) × (length b < length a))
  unfolding handed
  kept h =
      ⊎_elim
      (λ k. inl (ap (handed a b) k.0 ∙ take-length a, k.1))
      (λ k. inr (ap (handed a b) k.0 ∙ take-length b, k.1))
      (keep_same h)

  -- no longer than either
  pub kept_short : Same a b → (length (handed a b (keep a b)) ≤ length a) × (length (handed a b (keep a b)) ≤ length b)
  kept_short h =
      ⊎_elim (λ k. (omega (arith, ap length k.0), omega (arith, ap length k.0)))
      (λ k. (omega (arith, ap length k.0), omega (arith, ap length k.0))) (kept h)

  -- the same interchange
  pub kept_same : Same a b → Same a (handed a b (keep a b))
  kept_same h =
      ⊎_elim (λ k. subst (Same a) (sym k.0) (same_self h.first)) (λ k. subst (Same a) (sym k.0) h) (kept h)

  -- nothing where they are not the same
  pub kept_none : (Same a b → ⊥) → handed a b (keep a b) ≡ []
  unfolding handed
  kept_none h = ap (handed a b) (keep_other h)
