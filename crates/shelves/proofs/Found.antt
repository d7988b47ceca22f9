-- The slot of a copy, and the lowest free slot. Assumes nothing.
use Rattle.std.specs.Prelude.{if◌then◌else◌}
use Prim.Native.Nat.{ℕ, ◌≤◌, ◌<◌}
use mathlib.Core.Path.{◌≡◌, refl, sym, ap, subst, ◌∙◌}
use mathlib.Core.Bool.{Bool, true, false, not, true≢false}
use mathlib.Core.List.Memᴰ
use mathlib.Core.List.{List, [], ◌∷◌, Memᴰ}
use mathlib.Core.Option.{Option, none, some, none-ne-some, some-ne-none, some-injective}
use mathlib.Core.Logic.{⊎_elim}
use lib.Dec.{eqb, ltb}
use borrow.Author.Tests.{not-true, not-false, ltb-true, ltb-false}
use Rattle.lists.specs.Lists.{same, first, at, is_empty, maybe}
use Rattle.lists.proofs.Texts.{same_eq, decided}
use Rattle.lists.proofs.Tests.{says_same, says_eq, decides}
use Rattle.shelves.specs.Layout.{Layout, slot_count, is_occupied, Occupied, Free, occupied, free, text_of}
use Rattle.shelves.specs.Operations.{lowest_free, copy_of}
use Rattle.shelves.proofs.Passing.{passing_has, lowest_passing}
use Rattle.shelves.proofs.Sound.{Sound}

-- ---- the first that passes a test

module _ {A : Type 0} (t : A → Bool) where
  first_passes : (xs : List A) (x : A) → first t xs ≡ some x → Memᴰ x xs × (t x ≡ true)
  unfolding first
  first_passes [] x e = absurd (none-ne-some x e)
  first_passes (y ∷ ys) x e = step (t y) refl e (first_passes ys x)
    where
      step : (b : Bool) → t y ≡ b → (if b then some y else first t ys) ≡ some x → (first t ys ≡ some x → Memᴰ x ys × (t x ≡ true))
          → Memᴰ x (y ∷ ys) × (t x ≡ true)
      step true h q ih =
          let i : y ≡ x = some-injective y x q in
          (Memᴰ.head (sym i), ap t (sym i) ∙ h)
      step false h q ih = (Memᴰ.tail (ih q).0, (ih q).1)

  first_none : (xs : List A) → first t xs ≡ none → (x : A) → Memᴰ x xs → t x ≡ true → ⊥
  unfolding first
  first_none [] e x m h = Memᴰ.not-nil m
  first_none (y ∷ ys) e x m h = step (t y) refl e (first_none ys)
    where
      step : (b : Bool) → t y ≡ b → (if b then some y else first t ys) ≡ none
          → (first t ys ≡ none → (z : A) → Memᴰ z ys → t z ≡ true → ⊥) → ⊥
      step true i q ih = some-ne-none y q
      step false i q ih =
          ⊎_elim (λ (j : x ≡ y). true≢false (sym h ∙ ap t j ∙ i)) (λ (n : Memᴰ x ys). ih q x n h) (Memᴰ.cases_cons m)

-- ---- the copy of a text

module _ (l : Layout) (s form : List ℕ) where
  -- the slot that is found is occupied, and holds the text
  pub copy_holds : (k : ℕ) → copy_of l s form ≡ some k → Occupied s k × (text_of l s k ≡ form)
  unfolding copy_of occupied
  copy_holds k e =
      let f = first_passes (λ j. same (text_of l s j) form) (occupied s) k e in
      ((passing_has (is_occupied s) slot_count k).0 f.0, same_eq (text_of l s k) form f.1)

  -- where none is found, no occupied slot holds the text
  pub copy_none : copy_of l s form ≡ none → (k : ℕ) → Occupied s k → text_of l s k ≡ form → ⊥
  unfolding copy_of occupied
  copy_none e k o h =
      first_none (λ j. same (text_of l s j) form) (occupied s) e k ((passing_has (is_occupied s) slot_count k).1 o)
      ((says_same (text_of l s k) form).1 h)

  -- in a sound shelf there is one such slot at most
  pub copy_is : Sound l s → (k : ℕ) → Occupied s k → text_of l s k ≡ form → copy_of l s form ≡ some k
  copy_is was k o h = step (copy_of l s form) refl
    where
      step : (c : Option ℕ) → copy_of l s form ≡ c → copy_of l s form ≡ some k
      step none e = absurd (copy_none e k o h)
      step (some j) e =
          let f = copy_holds j e in
          ⊎_elim
          (λ (i : j ≡ k). e ∙ ap some i)
          (λ (d : j ≡ k → ⊥). absurd (was.different j k f.0 o d (f.1 ∙ sym h)))
          (decides (eqb j k) (says_eq j k))

-- ---- the lowest free slot

-- k is free, and every slot below it is occupied
pub record LowestFree (s : List ℕ) (k : ℕ) : Type 0 where
  pub is_free : Free s k
  pub lower : (j : ℕ) → j < k → is_occupied s j ≡ true

module _ (l : Layout) (s : List ℕ) where
  not_occupied : (k : ℕ) → not (is_occupied s k) ≡ true → is_occupied s k ≡ false
  not_occupied k e = not-true (is_occupied s k) e

  -- where some slot is free, it is the lowest
  pub lowest_free_lem : is_empty (free s) ≡ false → LowestFree s (lowest_free l s)
  unfolding lowest_free free maybe is_empty
  lowest_free_lem e =
      ⊎_elim
      (λ f. absurd (true≢false (sym (ap is_empty f.0) ∙ e)))
      (λ f.
      let k = f.0 in
      let i : maybe slot_count (λ j. j) (at (free s) 0) ≡ k = ap (maybe slot_count (λ j. j)) f.1 in
      subst (LowestFree s) (sym i)
      (record { is_free = (f.2.within, not_occupied k f.2.passes); lower = λ j h. not-false (is_occupied s j) (f.2.lower j h) }))
      (lowest_passing (λ k. not (is_occupied s k)) slot_count)

  -- and some slot is free, where this one is
  pub some_free : (k : ℕ) → Free s k → is_empty (free s) ≡ false
  unfolding free is_empty
  some_free k f =
      step (free s) ((passing_has (λ j. not (is_occupied s j)) slot_count k).1 (f.0, ap not f.1))
    where
      step : (ks : List ℕ) → Memᴰ k ks → is_empty ks ≡ false
      step [] m = absurd (Memᴰ.not-nil m)
      step (j ∷ js) m = refl

  -- a free slot is not below the lowest
  pub lowest_least : (k : ℕ) → Free s k → lowest_free l s ≤ k
  lowest_least k f =
      let low = lowest_free_lem (some_free k f) in
      ⊎_elim
      (λ (h : ltb k (lowest_free l s) ≡ true).
      absurd (true≢false (sym (low.lower k (ltb-true k (lowest_free l s) h)) ∙ f.1)))
      (λ (h : ltb k (lowest_free l s) ≡ false). ltb-false k (lowest_free l s) h)
      (decided (ltb k (lowest_free l s)))
