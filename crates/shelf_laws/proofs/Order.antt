-- Which refusal answers: 19 first, then Judge's, then 17 and 18 for a new text; 20 after 19. Assumes nothing.
use Prim.Native.Nat.{ℕ, ◌+◌, ◌≤◌, ◌<◌}
use mathlib.Core.Path.{◌≡◌, refl, sym, ap, ◌∙◌}
use mathlib.Core.Bool.{true, false, ◌&&◌}
use mathlib.Core.List.Memᴰ
use mathlib.Core.List.{List, [], ◌∷◌}
use mathlib.Core.Option.{Option, none, some}
use mathlib.Core.Logic.{⊎_elim, ◌↔◌}
use native.Mathlib.Omega.{arith}
use lib.Dec.{ltb}
use lib.ListN.{length}
use borrow.Author.Tests.{ltb-true, ltb-false}
use Rattle.lists.specs.Lists.{is_empty}
use Rattle.lists.proofs.Texts.{decided, and_left, and_right}
use Rattle.lists.proofs.Tests.{fails}
use Rattle.refusals.specs.declared.Fault.TheVariants.{NoFreeSlot, NoRoom, UnsoundShelf, FreeSlot}
use Rattle.refusals.specs.declared.Refusal.{Refusal}
use Rattle.stages.specs.Contents.{normal_form}
use Rattle.stages.specs.Stages.{places_of, refusal_of}
use Rattle.answers.specs.Answers.{Answer, refused}
use Rattle.contracts.proofs.Told.{given_refused, refused_tells}
use Rattle.acceptance_laws.proofs.Stages.{refused_exactly}
use Rattle.shelves.specs.Layout.{Layout, slot_count, is_occupied, Occupied, Free, duplicates_of, occupied, free, length_of, held, end_of}
use Rattle.shelves.specs.Soundness.{is_sized, sound}
use Rattle.shelves.specs.Answers.{new_at}
use Rattle.shelves.specs.Operations.{start, lowest_free, slots_of, sums_of, copy_of, put, slot_refusal, length_answer, remove}
use Rattle.shelves.proofs.Sound.{says_sized}
use Rattle.shelves.proofs.Answered.{nineteen, start_refused, start_done, slots_refused, slots_given, sums_refused, sums_given, put_refused, put_unsound, put_judged, put_copy, put_full, put_roomless, put_new_lem, slot_unsound, slot_free, slot_there, slot_refused, slot_given}
use Rattle.shelves.proofs.Found.{copy_holds, lowest_free_lem, some_free, lowest_least}
use Rattle.shelf_laws.specs.Shelf.{Sound, refused_at, New}
use Rattle.shelf_laws.proofs.PutCases.{new_not_refused, copy_not_refused}

-- Judge never answers 19: no input meets it anywhere
judge_other : (input : List ℕ) → refusal_of input ≡ some nineteen → ⊥
unfolding places_of
judge_other input e = Memᴰ.not-nil ((refused_exactly input UnsoundShelf 0).0 e).met

-- the number of an answer
abbrev numbered : Answer → ℕ
numbered a = a.number

-- "for Start a buffer outside those sizes (place 0)"
pub start_nineteen : (l : Layout) (buffer : List ℕ) → (start l buffer ≡ refused nineteen) ↔ (is_sized l buffer ≡ true → ⊥)
start_nineteen l buffer = (
  λ e z. given_refused [] nineteen (sym (start_done l buffer z).0 ∙ e),
  λ u. (start_refused l buffer ((fails (is_sized l buffer) (says_sized l buffer)).1 (λ z. u ((says_sized l buffer).1 z)))).0,
)

module _ (l : Layout) (s : List ℕ) where
  pub unsound_is : (Sound l s → ⊥) → sound l s ≡ false
  unsound_is u = ⊎_elim (λ (e : sound l s ≡ true). absurd (u e)) (λ (e : sound l s ≡ false). e) (decided (sound l s))

  -- ---- Put

  module _ (input : List ℕ) where
    abbrev form : List ℕ
    form = normal_form input

    -- "then Judge's"
    pub then_judged : (r : Refusal) → Sound l s → refusal_of input ≡ some r → put l s input ≡ refused r
    then_judged r sane e = (put_refused l s input (put_judged l s input sane e)).0

    -- an accepted text is not refused by 19, where the shelf is sound
    module _ (sane : Sound l s) (accepted : refusal_of input ≡ none) (e : put l s input ≡ refused nineteen) where
      not_new : copy_of l s form ≡ none → ⊥
      unfolding refused
      not_new c =
          ⊎_elim
          (λ (f : is_empty (free s) ≡ true).
          let q = ap numbered (sym (put_refused l s input (put_full l s input sane accepted c f)).0 ∙ e) in omega arith)
          (λ (f : is_empty (free s) ≡ false).
          ⊎_elim
          (λ (h : ltb (length s) (end_of l s + length form) ≡ true).
          let r = put_roomless l s input sane accepted c f (ltb-true (length s) (end_of l s + length form) h) in
          let q = ap numbered (sym (put_refused l s input r).0 ∙ e) in
          omega arith)
          (λ (h : ltb (length s) (end_of l s + length form) ≡ false).
          let d = put_new_lem l s input sane accepted c f (ltb-false (length s) (end_of l s + length form) h) in
          new_not_refused (lowest_free l s) nineteen (sym d.0 ∙ e))
          (decided (ltb (length s) (end_of l s + length form))))
          (decided (is_empty (free s)))

      not_accepted : ⊥
      not_accepted = step (copy_of l s form) refl
        where
          step : (o : Option ℕ) → copy_of l s form ≡ o → ⊥
          step none c = not_new c
          step (some k) c = copy_not_refused k nineteen (sym (put_copy l s input sane accepted c).0 ∙ e)

    -- "19 no sound shelf", and nothing else
    pub put_nineteen : (put l s input ≡ refused nineteen) ↔ (Sound l s → ⊥)
    put_nineteen = (λ e sane. there e sane (refusal_of input) refl, λ u. (put_refused l s input (put_unsound l s input (unsound_is u))).0)
      where
        there : put l s input ≡ refused nineteen → Sound l s → (o : Option Refusal) → refusal_of input ≡ o → ⊥
        there e sane none a = not_accepted sane a e
        there e sane (some r) a = judge_other input (a ∙ ap some (refused_tells r nineteen (sym (then_judged r sane a) ∙ e)))

    -- "then, for a new text"
    module _ (new : New l s input) where
      not_there : copy_of l s form ≡ none
      not_there = step (copy_of l s form) refl
        where
          step : (o : Option ℕ) → copy_of l s form ≡ o → copy_of l s form ≡ none
          step none e = e
          step (some k) e = let f = copy_holds l s form k e in absurd (new.2 k f.0 f.1)

      -- "17 no free slot (place 64)"
      pub then_full : ((k : ℕ) → Free s k → ⊥) → put l s input ≡ refused_at NoFreeSlot 64
      then_full u =
          ⊎_elim
          (λ (e : is_empty (free s) ≡ true). (put_refused l s input (put_full l s input new.0 new.1 not_there e)).0)
          (λ (e : is_empty (free s) ≡ false). absurd (u (lowest_free l s) (lowest_free_lem l s e).is_free))
          (decided (is_empty (free s)))

      -- "18 fewer free bytes than the text needs (place: bytes needed)"
      pub then_roomless : (k : ℕ) → Free s k → length s < end_of l s + length form → put l s input ≡ refused_at NoRoom (length form)
      then_roomless k f h =
          (put_refused l s input (put_roomless l s input new.0 new.1 not_there (some_free l s k f) h)).0

      -- and else it is kept
      pub then_kept : (k : ℕ) → Free s k → end_of l s + length form ≤ length s → (j : ℕ) × (put l s input ≡ new_at j) × (j ≤ k)
      then_kept k f h =
          (lowest_free l s, (put_new_lem l s input new.0 new.1 not_there (some_free l s k f) h).0, lowest_least l s k f)

  -- ---- Get and Remove

  module _ (slot : ℕ) where
    -- "20 for get or remove of a free slot or a slot above 63 (place: the slot)"
    pub free_refused : Sound l s → (Occupied s slot → ⊥) → slot_refusal l s slot ≡ some (record { fault = FreeSlot; place = slot })
    free_refused sane u =
        ⊎_elim
        (λ (e : (ltb slot slot_count && is_occupied s slot) ≡ true).
        absurd (u (
          ltb-true slot slot_count (and_left (ltb slot slot_count) (is_occupied s slot) e),
          and_right (ltb slot slot_count) (is_occupied s slot) e,
        )))
        (λ (e : (ltb slot slot_count && is_occupied s slot) ≡ false). slot_free l s slot sane e)
        (decided (ltb slot slot_count && is_occupied s slot))

    pub then_free : Sound l s → (Occupied s slot → ⊥)
        → (length_answer l s slot ≡ refused_at FreeSlot slot) × (remove l s slot ≡ refused_at FreeSlot slot)
    unfolding remove
    then_free sane u = let d = slot_refused l s slot (free_refused sane u) in (d.0, d.0)

    -- ".., after 19"
    pub length_nineteen : (length_answer l s slot ≡ refused nineteen) ↔ (Sound l s → ⊥)
    unfolding refused
    length_nineteen = (there, λ u. (slot_refused l s slot (slot_unsound l s slot (unsound_is u))).0)
      where
        there : length_answer l s slot ≡ refused nineteen → Sound l s → ⊥
        there e sane =
            ⊎_elim
            (λ (f : (ltb slot slot_count && is_occupied s slot) ≡ true).
            given_refused (length_of l s slot ∷ []) nineteen (sym (slot_given l s slot (slot_there l s slot sane f)).0 ∙ e))
            (λ (f : (ltb slot slot_count && is_occupied s slot) ≡ false).
            let q = ap numbered (sym (slot_refused l s slot (slot_free l s slot sane f)).0 ∙ e) in omega arith)
            (decided (ltb slot slot_count && is_occupied s slot))

    pub remove_nineteen : (remove l s slot ≡ refused nineteen) ↔ (Sound l s → ⊥)
    unfolding remove
    remove_nineteen = length_nineteen

  -- ---- the two sums, and the two numbers

  pub sums_nineteen : (sums_of l s ≡ refused nineteen) ↔ (Sound l s → ⊥)
  sums_nineteen = (
    λ e sane. given_refused (held l s ∷ duplicates_of s ∷ []) nineteen (sym (sums_given l s sane) ∙ e),
    λ u. sums_refused l s (unsound_is u),
  )

  pub slots_nineteen : (slots_of l s ≡ refused nineteen) ↔ (Sound l s → ⊥)
  slots_nineteen = (
    λ e sane. given_refused (length (occupied s) ∷ lowest_free l s ∷ []) nineteen (sym (slots_given l s sane) ∙ e),
    λ u. slots_refused l s (unsound_is u),
  )
