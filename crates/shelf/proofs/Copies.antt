-- The slot of a copy: the first that keeps the text. Assumes nothing.
use Rattle.std.specs.Prelude.{if◌then◌else◌, Option, None, Some, MatchOption}
use Prim.Native.Nat.{ℕ, ◌+◌, ◌≤◌, ◌<◌}
use mathlib.Core.Path.{◌≡◌, refl, sym, ap, ◌∙◌}
use mathlib.Core.Bool.{Bool, true, false}
use mathlib.Core.List.{List, [], ◌∷◌}
use mathlib.Core.Option.{some}
use native.Mathlib.Omega.{arith}
use lib.ListN.{length}
use Rattle.lists.specs.Lists.{same, those, first, at}
use Rattle.lists.proofs.Texts.{if_true, if_false, same_length}
use Rattle.shelves.specs.Layout.{Layout, slot_count, below, is_occupied, occupied, start_of, length_of, text_of}
use Rattle.shelves.specs.Operations.{copy_of}
use Rattle.shelves.specs.Soundness.{sound}
use Rattle.shelves.proofs.Sound.{Sound, says_sound}
use Rattle.shelf_soundness.proofs.Ranges.{text_length}
use Rattle.slot_map.proofs.Maps.{none_pass, first_passes}
use Rattle.shelf.specs.Parts.{keeps_text, CopyAt}

-- the first of those that pass one test that passes another
first_those : (o t : ℕ → Bool) (ks : List ℕ) → first t (those o ks) ≡ at (those (λ k. if o k then t k else false) ks) 0
unfolding first those at
first_those o t [] = refl
first_those o t (k ∷ ks) = step (o k) (t k) refl (first_those o t ks)
  where
    step : (a b : Bool) → t k ≡ b → first t (those o ks) ≡ at (those (λ j. if o j then t j else false) ks) 0
        → first t (if a then k ∷ those o ks else those o ks)
        ≡ at (if (if a then b else false) then k ∷ those (λ j. if o j then t j else false) ks else those (λ j. if o j then t j else false) ks) 0
    step true true e ih = if_true (t k) (some k) (first t (those o ks)) e
    step true false e ih = if_false (t k) (some k) (first t (those o ks)) e ∙ ih
    step false b e ih = ih

module _ (l : Layout) (s form : List ℕ) where
  copy_is : copy_of l s form ≡ at (those (keeps_text l s form) (below slot_count)) 0
  unfolding copy_of occupied keeps_text
  copy_is = first_those (is_occupied s) (λ k. same (text_of l s k) form) (below slot_count)

  -- what `find` says over the slots
  pub copy_found : (r : Option ℕ)
      → MatchOption r ((k : ℕ) → 0 ≤ k → k < 64 → keeps_text l s form k ≡ false) (λ i. (0 ≤ i) × (i < 64) × (keeps_text l s form i ≡ true) × ((k : ℕ) → 0 ≤ k → k < i → keeps_text l s form k ≡ false))
      → CopyAt l s form r
  unfolding at
  copy_found None h =
      copy_is ∙ ap (λ (ks : List ℕ). at ks 0) (none_pass (keeps_text l s form) slot_count (λ k m. h k (omega arith) m))
  copy_found (Some i) h =
      copy_is ∙ first_passes (keeps_text l s form) slot_count i h.1 h.2 (λ k m. h.3 k (omega arith) m)

  -- ---- whether a slot keeps it

  module _ (k : ℕ) where
    pub keeps_free : is_occupied s k ≡ false → false ≡ keeps_text l s form k
    unfolding keeps_text
    keeps_free o = sym (if_false (is_occupied s k) (same (text_of l s k) form) false o)

    pub keeps_same : is_occupied s k ≡ true → {r : Bool} → r ≡ same (text_of l s k) form → r ≡ keeps_text l s form k
    unfolding keeps_text
    keeps_same o e = e ∙ sym (if_true (is_occupied s k) (same (text_of l s k) form) false o)

    pub keeps_longer : is_occupied s k ≡ true → start_of l s k + length_of l s k ≤ length s → {n : ℕ} → n ≡ length_of l s k
        → (n ≡ length form → ⊥) → false ≡ keeps_text l s form k
    keeps_longer o h e d =
        keeps_same o (sym (same_length (text_of l s k) form (λ q. d (e ∙ sym (text_length l s k h) ∙ q))))

-- what a sound shelf has
pub sound_shelf : (l : Layout) (s : List ℕ) → sound l s ≡ true → Sound l s
sound_shelf l s e = (says_sound l s).0 e

pub kept_within : (l : Layout) (s : List ℕ) (k : ℕ) → sound l s ≡ true → k < slot_count → is_occupied s k ≡ true
    → start_of l s k + length_of l s k ≤ length s
kept_within l s k e i o = let q = sound_shelf l s e in omega (arith, (q.lie k (i, o)).1, q.room)
