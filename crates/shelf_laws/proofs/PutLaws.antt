-- What follows of Put: a sound shelf stays sound, what was put is got back, and is there when it is put again. Assumes nothing.
use Prim.Native.Nat.{ℕ, ◌+◌, ◌≤◌}
use mathlib.Core.Path.{◌≡◌, refl, sym, ap, subst, ◌∙◌}
use mathlib.Core.List.{List, [], ◌∷◌}
use mathlib.Core.Option.{none}
use mathlib.Core.Logic.{⊎_elim}
use lib.ListN.{length}
use Rattle.refusals.specs.declared.Refusal.{Refusal}
use Rattle.stages.specs.Contents.{normal_form}
use Rattle.stages.specs.Stages.{refusal_of}
use Rattle.answers.specs.Answers.{given, refused}
use Rattle.shelves.specs.Layout.{Layout, Occupied, occupied, text_of}
use Rattle.shelves.specs.Answers.{new_at, copy_at}
use Rattle.shelves.specs.Operations.{lowest_free, slots_of, put, with_copy, put_shelf}
use Rattle.shelves.proofs.Sound.{Sound, says_sound}
use Rattle.shelves.proofs.Answered as answered
use Rattle.shelves.proofs.Copied.{copied_sound, occupied_as_lem, length_as_lem, text_as_lem}
use Rattle.own_form_laws.proofs.OwnForm.{form_normal}
use Rattle.shelf_laws.specs.Shelf.{got, Keeps}
use Rattle.shelves.proofs.Found.{copy_is}
use Rattle.shelf_laws.proofs.PutSound.{put_keeps, text_other}
use Rattle.shelf_laws.proofs.PutCases.{Refusing, Copying, Storing, put_cases, new_not_refused, copy_not_refused, new_not_copy, new_slot, copy_slot}
use Rattle.shelf_laws.proofs.RemoveCases.{got_text}
use Rattle.shelf_laws.proofs.Slots.{SaysAlike, alike, one_more}

-- a text that is there, under any spelling, is found in its slot, and only the duplicates figure changes
pub there : (l : Layout) (s other : List ℕ) (k : ℕ) → Sound l s → Occupied s k → refusal_of other ≡ none → normal_form other ≡ text_of l s k
    → (put l s other ≡ copy_at k) × (put_shelf l s other ≡ with_copy l s)
there l s other k was o accepted e =
    answered.put_copy l s other ((says_sound l s).1 was) accepted (copy_is l s (normal_form other) was k o (sym e))

module _ (l : Layout) (head : 13 ≤ l.pairs) (s input : List ℕ) where
  abbrev after : List ℕ
  after = put_shelf l s input

  -- a refused call changes nothing
  pub refused_stays : (r : Refusal) → put l s input ≡ refused r → after ≡ s
  refused_stays r e =
      ⊎_elim (λ (c : Refusing l s input). c.stays)
      (⊎_elim (λ (c : Copying l s input). absurd (copy_not_refused c.slot r (sym c.answer ∙ e)))
      (λ (c : Storing l s input). absurd (new_not_refused (lowest_free l s) r (sym c.answer ∙ e))))
      (put_cases l s input head)

  stored_sound : Storing l s input → Sound l after
  stored_sound c =
      put_keeps l s (normal_form input) (lowest_free l s) after c.lowest.is_free c.was c.room c.adds
      (form_normal input c.accepted) c.fresh

  -- a sound shelf stays sound
  pub keeps_sound : Sound l s → Sound l after
  keeps_sound was =
      ⊎_elim (λ (c : Refusing l s input). subst (Sound l) (sym c.stays) was)
      (⊎_elim (λ (c : Copying l s input). copied_sound l head s after c.copies was) stored_sound)
      (put_cases l s input head)

  -- every slot but that of a new text says what it said
  pub others_stay : (k : ℕ) → Sound l s → (put l s input ≡ new_at k → ⊥) → SaysAlike l s after k
  others_stay k was other =
      ⊎_elim (λ (c : Refusing l s input). subst (λ (t : List ℕ). SaysAlike l s t k) (sym c.stays) (refl, refl))
      (⊎_elim copied stored)
      (put_cases l s input head)
    where
      copied : Copying l s input → SaysAlike l s after k
      copied c =
          alike l head k s after ((says_sound l s).1 was) ((says_sound l after).1 (copied_sound l head s after c.copies was))
          (λ h. occupied_as_lem l head s after c.copies k)
          (λ h. length_as_lem l head s after c.copies k)
          (λ o. text_as_lem l head s after c.copies was k o)

      stored : Storing l s input → SaysAlike l s after k
      stored c =
          let d : k ≡ lowest_free l s → ⊥ = λ e. other (c.answer ∙ ap new_at (sym e)) in
          alike l head k s after ((says_sound l s).1 was) ((says_sound l after).1 (stored_sound c))
          (λ h. c.adds.occupied_other k h d)
          (λ h. c.adds.length_other k h d)
          (λ o.
          text_other l s (normal_form input) (lowest_free l s) after c.lowest.is_free c.was c.room c.adds
          (form_normal input c.accepted) c.fresh k o d)

  -- What is known of the slot that Put answers, of a new text or of a copy.
  pub record Kept (slot : ℕ) : Type 0 where
    pub is : Sound l after
    pub there : Occupied after slot
    pub holds : text_of l after slot ≡ normal_form input

  of_copy : (c : Copying l s input) → Kept c.slot
  of_copy c =
      record {
        is = copied_sound l head s after c.copies c.was;
        there = (c.there.0, occupied_as_lem l head s after c.copies c.slot ∙ c.there.1);
        holds = text_as_lem l head s after c.copies c.was c.slot c.there ∙ c.holds;
      }

  of_new : (c : Storing l s input) → Kept (lowest_free l s)
  of_new c = record { is = stored_sound c; there = (c.lowest.is_free.0, c.adds.occupied_this); holds = c.adds.text_this }

  -- the case of an answer with a new text
  pub new_case : (slot : ℕ) → put l s input ≡ new_at slot → Storing l s input × (lowest_free l s ≡ slot)
  new_case slot e =
      ⊎_elim (λ (c : Refusing l s input). absurd (new_not_refused slot c.refusal (sym e ∙ c.answer)))
      (⊎_elim (λ (c : Copying l s input). absurd (new_not_copy slot c.slot (sym e ∙ c.answer)))
      (λ (c : Storing l s input). (c, new_slot (lowest_free l s) slot (sym c.answer ∙ e))))
      (put_cases l s input head)

  pub copy_case : (slot : ℕ) → put l s input ≡ copy_at slot → (c : Copying l s input) × (c.slot ≡ slot)
  copy_case slot e =
      ⊎_elim (λ (c : Refusing l s input). absurd (copy_not_refused slot c.refusal (sym e ∙ c.answer)))
      (⊎_elim (λ (c : Copying l s input). (c, copy_slot c.slot slot (sym c.answer ∙ e)))
      (λ (c : Storing l s input). absurd (new_not_copy (lowest_free l s) slot (sym c.answer ∙ e))))
      (put_cases l s input head)

  pub kept_there : (slot : ℕ) → Keeps l s input slot → Kept slot
  kept_there slot k =
      ⊎_elim
      (λ e. let c = new_case slot e in subst Kept c.1 (of_new c.0))
      (λ e. let c = copy_case slot e in subst Kept c.1 (of_copy c.0))
      k

  -- what was put is got back
  pub got_back : (slot : ℕ) → Keeps l s input slot → got l after slot ≡ normal_form input
  got_back slot k = let c = kept_there slot k in got_text l after slot head c.is c.there ∙ c.holds

  -- and is there when it is put again, under any spelling
  pub there_again : (other : List ℕ) (slot : ℕ) → Keeps l s input slot → refusal_of other ≡ none → normal_form other ≡ normal_form input
      → (put l after other ≡ copy_at slot) × (put_shelf l after other ≡ with_copy l after)
  there_again other slot k accepted e =
      let c = kept_there slot k in there l after other slot c.is c.there accepted (e ∙ sym c.holds)

  -- what the map says of a shelf into which a new text went
  pub slots_say : (slot : ℕ) → put l s input ≡ new_at slot
      → (slots_of l s ≡ given (length (occupied s) ∷ slot ∷ [])) × (length (occupied after) ≡ length (occupied s) + 1)
  slots_say slot e =
      let (c, at) = new_case slot e in (
        answered.slots_given l s ((says_sound l s).1 c.was) ∙ ap (λ (k : ℕ). given (length (occupied s) ∷ k ∷ [])) at,
        one_more s after (lowest_free l s) c.lowest.is_free.0 c.adds.occupied_other c.lowest.is_free.1 c.adds.occupied_this,
      )
