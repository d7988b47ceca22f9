-- What follows of Remove: a sound shelf stays sound, the other texts stay, and what was removed is free for the next text. Assumes nothing.
use Prim.Native.Nat.{ℕ, ◌+◌, ◌≤◌, ◌<◌}
use mathlib.Core.Path.{◌≡◌, refl, sym, ap, subst, ◌∙◌}
use mathlib.Core.Bool.{true, true≢false}
use mathlib.Core.List.{List, [], ◌∷◌}
use mathlib.Core.Option.{Option, none, some}
use mathlib.Core.Logic.{inl, inr, ⊎_elim}
use native.Mathlib.Omega.{arith}
use lib.ListN.{length}
use Rattle.refusals.specs.declared.Refusal.{Refusal}
use Rattle.stages.specs.Contents.{normal_form}
use Rattle.stages.specs.Stages.{refusal_of}
use Rattle.answers.specs.Answers.{given, refused}
use Rattle.contracts.proofs.Told.{given_refused}
use Rattle.shelves.specs.Layout.{Layout, is_occupied, Occupied, Free, occupied, start_of, length_of, text_of, end_of}
use Rattle.shelves.specs.Soundness.{sound}
use Rattle.shelves.specs.Answers.{new_at}
use Rattle.shelves.specs.Operations.{lowest_free, copy_of, put, got_offset, got_length, length_answer, remove, remove_shelf}
use Rattle.shelves.proofs.Sound.{Sound, says_sound}
use Rattle.shelves.proofs.Answered as answered
use Rattle.shelf_laws.specs.Shelf.{got, Keeps, New}
use Rattle.shelf_laws.proofs.RemoveSound.{text_length, remove_keeps, text_kept}
use Rattle.shelf_laws.proofs.RemoveCases.{Refusing, Taking, remove_cases, given_length}
use Rattle.shelf_laws.proofs.Order.{then_kept}
use Rattle.shelf_laws.proofs.Slots.{SaysAlike, alike, one_less}
use Rattle.shelves.proofs.Found.{some_free, lowest_least}
use Rattle.shelf_laws.proofs.PutCases.{new_not_copy}

module _ (l : Layout) (head : 13 ≤ l.pairs) (s : List ℕ) (slot : ℕ) where
  abbrev after : List ℕ
  after = remove_shelf l s slot

  -- a refused call changes nothing
  pub refused_stays : (r : Refusal) → remove l s slot ≡ refused r → after ≡ s
  refused_stays r e =
      ⊎_elim (λ (c : Refusing l s slot). c.stays)
      (λ (c : Taking l s slot). absurd (given_refused (length_of l s slot ∷ []) r (sym c.answer ∙ e)))
      (remove_cases l s slot head)

  -- and Get hands back zero bytes at the shelf's start
  pub refused_nothing : (r : Refusal) → length_answer l s slot ≡ refused r → (got_offset l s slot ≡ 0) × (got_length l s slot ≡ 0)
  unfolding remove
  refused_nothing r e =
      ⊎_elim (λ (c : Refusing l s slot). c.nothing)
      (λ (c : Taking l s slot). absurd (given_refused (length_of l s slot ∷ []) r (sym c.answer ∙ e)))
      (remove_cases l s slot head)

  taken_sound : Taking l s slot → Sound l after
  taken_sound c = remove_keeps l s slot after c.was c.there c.takes

  pub keeps_sound : Sound l s → Sound l after
  keeps_sound was =
      ⊎_elim (λ (c : Refusing l s slot). subst (Sound l) (sym c.stays) was) taken_sound (remove_cases l s slot head)

  -- every other slot says what it said
  pub others_stay : (k : ℕ) → Sound l s → (k ≡ slot → ⊥) → SaysAlike l s after k
  others_stay k was d =
      ⊎_elim
      (λ (c : Refusing l s slot). subst (λ (t : List ℕ). SaysAlike l s t k) (sym c.stays) (refl, refl))
      (λ (c : Taking l s slot).
      alike l head k s after ((says_sound l s).1 was) ((says_sound l after).1 (taken_sound c))
      (λ h. c.takes.occupied_other k h d)
      (λ h. c.takes.length_other k h d)
      (λ o. text_kept l s slot after c.was c.there c.takes k o d))
      (remove_cases l s slot head)

  -- the case of an answer that refuses nothing
  pub given_case : (n : ℕ) → remove l s slot ≡ given (n ∷ []) → Taking l s slot × (length_of l s slot ≡ n)
  given_case n e =
      ⊎_elim
      (λ (c : Refusing l s slot). absurd (given_refused (n ∷ []) c.refusal (sym e ∙ c.answer)))
      (λ (c : Taking l s slot). (c, given_length (length_of l s slot) n (sym c.answer ∙ e)))
      (remove_cases l s slot head)

  -- its length was answered, its slot is free, and the texts end so much earlier
  pub frees : (n : ℕ) → remove l s slot ≡ given (n ∷ []) → (n ≡ length (got l s slot)) × Free after slot × (end_of l after + n ≡ end_of l s)
  frees n e =
      let (c, long) = given_case n e in (
        sym long ∙ sym (text_length l s c.was slot c.there) ∙ ap length (sym c.text),
        (c.there.0, c.takes.free_this),
        ap (λ (k : ℕ). end_of l after + k) (sym long) ∙ c.takes.end,
      )

  -- a text that then fits is kept, and a new one in a slot not above that one
  pub room_again : (n : ℕ) (input : List ℕ) → remove l s slot ≡ given (n ∷ []) → refusal_of input ≡ none
      → end_of l s + length (normal_form input) ≤ length s + n
      → (k : ℕ) × Keeps l after input k × (put l after input ≡ new_at k → k ≤ slot)
  room_again n input e accepted fits = step (copy_of l after (normal_form input)) refl
    where
      c : Taking l s slot
      c = (given_case n e).0

      sane : sound l after ≡ true
      sane = (says_sound l after).1 (taken_sound c)

      free : Free after slot
      free = (frees n e).1

      room : end_of l after + length (normal_form input) ≤ length after
      room = omega (arith, (frees n e).2, c.takes.long)

      step : (o : Option ℕ) → copy_of l after (normal_form input) ≡ o
          → (k : ℕ) × Keeps l after input k × (put l after input ≡ new_at k → k ≤ slot)
      step none q =
          let d = answered.put_new_lem l after input sane accepted q (some_free l after slot free) room in
          (lowest_free l after, inl d.0, λ p. lowest_least l after slot free)
      step (some k) q =
          let d = answered.put_copy l after input sane accepted q in
          (k, inr d.0, λ p. absurd (new_not_copy k k (sym p ∙ d.0)))

  -- what was removed is gone: put again, it is new, in a slot not above that one
  pub gone : (n : ℕ) (input : List ℕ) → remove l s slot ≡ given (n ∷ []) → refusal_of input ≡ none → normal_form input ≡ got l s slot
      → (k : ℕ) × (put l after input ≡ new_at k) × (k ≤ slot)
  gone n input e accepted same = then_kept l after input new slot free room
    where
      c : Taking l s slot
      c = (given_case n e).0

      free : Free after slot
      free = (frees n e).1

      text : normal_form input ≡ text_of l s slot
      text = same ∙ c.text

      fresh : (k : ℕ) → Occupied after k → text_of l after k ≡ normal_form input → ⊥
      fresh k o h =
          let d : k ≡ slot → ⊥ = λ q. true≢false (sym o.1 ∙ ap (is_occupied after) q ∙ free.1) in
          let was : Occupied s k = (o.0, sym (c.takes.occupied_other k o.0 d) ∙ o.1) in
          c.was.different k slot was c.there d (sym (text_kept l s slot after c.was c.there c.takes k was d) ∙ h ∙ text)

      new : New l after input
      new = ((says_sound l after).1 (taken_sound c), accepted, fresh)

      room : end_of l after + length (normal_form input) ≤ length after
      room = omega (arith, (frees n e).0, ap length same, (frees n e).2, c.takes.long, c.was.room)

  -- a text that lay before it stays, one that lay behind it moves down by its length
  pub moves : (n k : ℕ) → remove l s slot ≡ given (n ∷ []) → Occupied s k → (k ≡ slot → ⊥)
      → (start_of l s k < start_of l s slot → start_of l after k ≡ start_of l s k)
      × (start_of l s slot < start_of l s k → start_of l after k + n ≡ start_of l s k)
  moves n k e o d =
      let (c, long) = given_case n e in (
        λ h. c.takes.start_earlier k o.0 d (omega arith),
        λ h.
            let at = c.takes.start_later k o.0 d h in
            ⊎_elim
            (λ (q : start_of l s k + length_of l s k ≤ start_of l s slot). absurd (omega arith))
            (λ (q : start_of l s slot + length_of l s slot ≤ start_of l s k). omega arith)
            (c.was.disjoint k slot o c.there d),
      )

  -- one slot less is occupied
  pub slots_say : (n : ℕ) → remove l s slot ≡ given (n ∷ []) → length (occupied after) + 1 ≡ length (occupied s)
  slots_say n e =
      let c = (given_case n e).0 in
      one_less s after slot c.there.0 c.takes.occupied_other c.there.1 c.takes.free_this
