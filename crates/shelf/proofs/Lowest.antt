-- The lowest free slot, read off the map, and whether there is one. Assumes nothing.
use Prim.Native.Nat.{ℕ, ◌<◌}
use mathlib.Core.Path.{◌≡◌, refl, sym, ap, subst, ◌∙◌}
use mathlib.Core.Bool.{true, false, true≢false}
use mathlib.Core.List.{List, [], ◌∷◌}
use mathlib.Core.Logic.{⊎_elim}
use native.Mathlib.Omega.{arith}
use Rattle.lists.specs.Lists.{is_empty, at, maybe}
use Rattle.lists.proofs.Texts.{decided}
use Rattle.shelves.specs.Layout.{Layout, slot_count, map_of, is_occupied, free}
use Rattle.shelves.specs.Operations.{lowest_free}
use Rattle.shelves.proofs.Found.{lowest_free_lem}
use Rattle.slot_map.specs.Slots.{lowest_free_in}

pub lowest_by : (l : Layout) (s : List ℕ) {m r : ℕ} → m ≡ map_of s → r ≡ lowest_free_in m → r ≡ lowest_free l s
unfolding lowest_free free is_occupied lowest_free_in
lowest_by l s e f = f ∙ ap lowest_free_in e

lowest_none : (l : Layout) (s : List ℕ) → is_empty (free s) ≡ true → lowest_free l s ≡ slot_count
unfolding lowest_free is_empty maybe at
lowest_none l s e = step (free s) e
  where
    step : (ks : List ℕ) → is_empty ks ≡ true → maybe slot_count (λ k. k) (at ks 0) ≡ slot_count
    step [] e = refl
    step (k ∷ ks) e = absurd (true≢false (sym e))

module _ (l : Layout) (s : List ℕ) {slot : ℕ} (e : slot ≡ lowest_free l s) where
  pub none_free : slot ≡ slot_count → is_empty (free s) ≡ true
  none_free f =
      ⊎_elim
      (λ (t : is_empty (free s) ≡ true). t)
      (λ (t : is_empty (free s) ≡ false). absurd (omega (arith, (lowest_free_lem l s t).is_free.0, e, f)))
      (decided (is_empty (free s)))

  pub one_free : (slot ≡ slot_count → ⊥) → (is_empty (free s) ≡ false) × (slot < slot_count) × (is_occupied s slot ≡ false)
  one_free d =
      ⊎_elim
      (λ (t : is_empty (free s) ≡ true). absurd (d (e ∙ lowest_none l s t)))
      (λ (t : is_empty (free s) ≡ false).
      let h = (lowest_free_lem l s t).is_free in (t, subst (λ (k : ℕ). k < slot_count) (sym e) h.0, ap (is_occupied s) e ∙ h.1))
      (decided (is_empty (free s)))
