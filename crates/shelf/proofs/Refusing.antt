-- What a slot that is asked for is refused by, and an outcome with the refusal that it has. Assumes nothing.
use Rattle.std.specs.Prelude.{Ok, Err}
use Prim.Native.Nat.{ℕ, ◌≤◌, ◌<◌}
use mathlib.Core.Path.{◌≡◌, refl, sym, ap, ◌∙◌}
use mathlib.Core.Bool.{true, false, not, ◌&&◌}
use mathlib.Core.List.{List, [], ◌∷◌}
use mathlib.Core.Logic.{⊎_elim}
use mathlib.Core.Option.{Option, none, some, none-ne-some}
use native.Mathlib.Omega.{arith}
use lib.Dec.{ltb}
use lib.ListN.{length}
use borrow.Author.Tests.{ltb-true}
use Rattle.lists.proofs.Texts.{decided, and_left, and_right}
use Rattle.refusals.specs.declared.Fault.TheVariants.{FreeSlot}
use Rattle.refusals.specs.declared.Refusal.{Refusal}
use Rattle.refusals.specs.Refusals.{met, place_if, answering, outcome}
use Rattle.refusals.proofs.Stages.{one_place}
use Rattle.shelves.specs.Layout.{Layout, slot_count, bit, map_of, base, is_occupied}
use Rattle.shelves.specs.Soundness.{sound}
use Rattle.shelves.specs.Operations.{slot_refusal}
use Rattle.shelves.proofs.Answered.{nineteen, sound_answers, there, slot_unsound, slot_free}
use Rattle.shelves.proofs.Sound.{says_sound}
use Rattle.shelf.specs.Parts.{asked_slot}

module _ (l : Layout) (s : List ℕ) (slot : ℕ) where
  -- 19, or what is asked of the slot
  pub outcome_unsound : sound l s ≡ false → Err nineteen ≡ outcome (slot_refusal l s slot)
  unfolding outcome
  outcome_unsound e = ap outcome (sym (slot_unsound l s slot e))

  pub asked_here : sound l s ≡ true → {map : ℕ} → map ≡ map_of s → asked_slot map slot ≡ outcome (slot_refusal l s slot)
  unfolding asked_slot slot_refusal is_occupied
  asked_here e m =
      ap (λ (map : ℕ). asked_slot map slot) m
      ∙ sym (ap outcome (sound_answers l s (met FreeSlot (place_if (not (ltb slot slot_count && is_occupied s slot)) slot) ∷ []) e))

  module _ (q : sound l s ≡ true) where
    there_by : slot_refusal l s slot ≡ none → there l s slot ≡ true
    there_by e =
        ⊎_elim
        (λ (t : there l s slot ≡ true). t)
        (λ (t : there l s slot ≡ false). absurd (none-ne-some (record { fault = FreeSlot; place = slot }) (sym e ∙ slot_free l s slot q t)))
        (decided (there l s slot))

  -- what is refused by nothing is a kept text of a sound shelf
  pub passed_kept : slot_refusal l s slot ≡ none → (sound l s ≡ true) × ((slot < slot_count) × (is_occupied s slot ≡ true))
  passed_kept e =
      ⊎_elim
      (λ (q : sound l s ≡ true).
      let t = there_by q e in
      (q, (ltb-true slot slot_count (and_left (ltb slot slot_count) (is_occupied s slot) t), and_right (ltb slot slot_count) (is_occupied s slot) t)))
      (λ (q : sound l s ≡ false). absurd (none-ne-some nineteen (sym e ∙ slot_unsound l s slot q)))
      (decided (sound l s))

  -- its pair lies in the shelf
  pub passed_range : slot_refusal l s slot ≡ none → (base l ≤ length s) × (slot < slot_count)
  passed_range e = let h = passed_kept e in (((says_sound l s).0 h.0).least, h.1.0)

-- ---- what is asked of the slot alone

module _ (map slot : ℕ) where
  pub slot_passes : (ltb slot slot_count && bit map slot) ≡ true → Ok tt ≡ asked_slot map slot
  unfolding asked_slot outcome answering
  slot_passes e = sym (ap outcome (one_place FreeSlot slot [] (ap not e)))

  pub slot_fails : (ltb slot slot_count && bit map slot) ≡ false → Err (record { fault = FreeSlot; place = slot }) ≡ asked_slot map slot
  unfolding asked_slot outcome
  slot_fails e = sym (ap outcome (one_place FreeSlot slot [] (ap not e)))

-- no refusal, where the outcome passed; this one, where it failed
pub outcome_passed : (o : Option Refusal) → outcome o ≡ Ok tt → o ≡ none
unfolding outcome
outcome_passed none e = refl
outcome_passed (some r) e = let z : ◌≡◌ {A = ℕ} 0 1 = cc in absurd (omega arith)

pub outcome_failed : (o : Option Refusal) {r : Refusal} → outcome o ≡ Err r → o ≡ some r
unfolding outcome
outcome_failed none e = let z : ◌≡◌ {A = ℕ} 0 1 = cc in absurd (omega arith)
outcome_failed (some r) e = cc
