-- What each operation answers and leaves in the shelf, by what its tests say, in the order in which they are asked. Assumes nothing.
use Prim.Native.Nat.{ℕ, ◌+◌, ◌≤◌, ◌<◌}
use mathlib.Core.Path.{◌≡◌, ap, ◌∙◌}
use mathlib.Core.Bool.{Bool, true, false, not, ◌&&◌}
use mathlib.Core.List.{List, [], ◌∷◌, ◌++◌}
use mathlib.Core.Option.{Option, none, some}
use lib.Dec.{ltb}
use lib.ListN.{length}
use borrow.Author.Tests.{lt-ltb, le-ltb}
use Rattle.lists.specs.Lists.{is_empty, maybe}
use Rattle.refusals.specs.declared.Fault.TheVariants.{NoFreeSlot, NoRoom, UnsoundShelf, FreeSlot}
use Rattle.refusals.specs.declared.Refusal.{Refusal}
use Rattle.refusals.specs.Refusals.{Stage, met, place_if, answering}
use Rattle.refusals.proofs.Stages.{one_place}
use Rattle.stages.specs.Contents.{normal_form}
use Rattle.stages.specs.Stages.{stages, refusal_of}
use Rattle.answers.specs.Answers.{given, refused}
use Rattle.operations.specs.Judge.{unless_refused}
use Rattle.operations.proofs.Answered.{input_answers, last_answers}
use Rattle.shelves.specs.Layout.{Layout, slot_count, duplicates_of, is_occupied, occupied, free, start_of, length_of, held, end_of}
use Rattle.shelves.specs.Soundness.{is_sized, sound}
use Rattle.shelves.specs.Answers.{new_at, copy_at}
use Rattle.shelves.specs.Operations.{start_refusal, start, empty_shelf, start_shelf, unsound, lowest_free, slots_of, sums_of, copy_of, no_free_slot, no_room, for_new, put_refusal, put, with_text, with_copy, put_shelf, slot_refusal, got_offset, got_length, length_answer, without, remove_shelf}

-- 19 at 0
abbrev pub nineteen : Refusal
nineteen = record { fault = UnsoundShelf; place = 0 }

module _ (l : Layout) where
  -- ---- Start

  -- a buffer outside the sizes is refused and stays
  pub start_refused : (buffer : List ℕ) → is_sized l buffer ≡ false → (start l buffer ≡ refused nineteen) × (start_shelf l buffer ≡ buffer)
  unfolding start start_shelf start_refusal maybe unless_refused
  start_refused buffer e =
      let r : start_refusal l buffer ≡ some nineteen = one_place UnsoundShelf 0 [] (ap not e) in
      (ap (maybe (given []) refused) r, ap (λ (o : Option Refusal). unless_refused o (empty_shelf l (length buffer)) buffer) r)

  -- any other becomes an empty shelf
  pub start_done : (buffer : List ℕ) → is_sized l buffer ≡ true → (start l buffer ≡ given []) × (start_shelf l buffer ≡ empty_shelf l (length buffer))
  unfolding start start_shelf start_refusal maybe unless_refused answering
  start_done buffer e =
      let r : start_refusal l buffer ≡ none = one_place UnsoundShelf 0 [] (ap not e) in
      (ap (maybe (given []) refused) r, ap (λ (o : Option Refusal). unless_refused o (empty_shelf l (length buffer)) buffer) r)

  module _ (s : List ℕ) where
    -- ---- soundness is asked first

    pub unsound_answers : (later : List Stage) → sound l s ≡ false → answering (unsound l s ∷ later) ≡ some nineteen
    unfolding unsound
    unsound_answers later e = one_place UnsoundShelf 0 later (ap not e)

    pub sound_answers : (later : List Stage) → sound l s ≡ true → answering (unsound l s ∷ later) ≡ answering later
    unfolding unsound
    sound_answers later e = one_place UnsoundShelf 0 later (ap not e)

    -- ---- the two numbers that are read off the map

    pub slots_refused : sound l s ≡ false → slots_of l s ≡ refused nineteen
    unfolding slots_of maybe
    slots_refused e = ap (maybe (given (length (occupied s) ∷ lowest_free l s ∷ [])) refused) (unsound_answers [] e)

    pub slots_given : sound l s ≡ true → slots_of l s ≡ given (length (occupied s) ∷ lowest_free l s ∷ [])
    unfolding slots_of maybe answering
    slots_given e = ap (maybe (given (length (occupied s) ∷ lowest_free l s ∷ [])) refused) (sound_answers [] e)

    -- ---- the two sums

    pub sums_refused : sound l s ≡ false → sums_of l s ≡ refused nineteen
    unfolding sums_of maybe
    sums_refused e = ap (maybe (given (held l s ∷ duplicates_of s ∷ [])) refused) (unsound_answers [] e)

    pub sums_given : sound l s ≡ true → sums_of l s ≡ given (held l s ∷ duplicates_of s ∷ [])
    unfolding sums_of maybe answering
    sums_given e = ap (maybe (given (held l s ∷ duplicates_of s ∷ [])) refused) (sound_answers [] e)

    -- ---- Put

    module _ (input : List ℕ) where
      abbrev form : List ℕ
      form = normal_form input

      -- refused: the shelf stays
      pub put_refused : {r : Refusal} → put_refusal l s input ≡ some r → (put l s input ≡ refused r) × (put_shelf l s input ≡ s)
      unfolding put put_shelf maybe unless_refused
      put_refused e = (
        ap (maybe (maybe (new_at (lowest_free l s)) copy_at (copy_of l s form)) refused) e,
        ap (λ (o : Option Refusal). unless_refused o (maybe (with_text l s form) (λ k. with_copy l s) (copy_of l s form)) s) e,
      )

      -- not refused: the copy's slot, or the lowest free one
      pub put_done : put_refusal l s input ≡ none
          → (put l s input ≡ maybe (new_at (lowest_free l s)) copy_at (copy_of l s form))
          × (put_shelf l s input ≡ maybe (with_text l s form) (λ k. with_copy l s) (copy_of l s form))
      unfolding put put_shelf maybe unless_refused
      put_done e = (
        ap (maybe (maybe (new_at (lowest_free l s)) copy_at (copy_of l s form)) refused) e,
        ap (λ (o : Option Refusal). unless_refused o (maybe (with_text l s form) (λ k. with_copy l s) (copy_of l s form)) s) e,
      )

      -- "19 .., then Judge's"
      pub put_unsound : sound l s ≡ false → put_refusal l s input ≡ some nineteen
      unfolding put_refusal
      put_unsound e = unsound_answers (stages input ++ for_new l s form) e

      pub put_judged : {r : Refusal} → sound l s ≡ true → refusal_of input ≡ some r → put_refusal l s input ≡ some r
      unfolding put_refusal
      put_judged e a = sound_answers (stages input ++ for_new l s form) e ∙ input_answers input (for_new l s form) a

      -- "then, for a new text"
      pub put_later : sound l s ≡ true → refusal_of input ≡ none → put_refusal l s input ≡ answering (for_new l s form)
      unfolding put_refusal
      put_later e a = sound_answers (stages input ++ for_new l s form) e ∙ last_answers input (for_new l s form) a

      module _ (sane : sound l s ≡ true) (accepted : refusal_of input ≡ none) where
        -- a copy is there
        pub put_copy : {k : ℕ} → copy_of l s form ≡ some k → (put l s input ≡ copy_at k) × (put_shelf l s input ≡ with_copy l s)
        unfolding for_new maybe answering
        put_copy c =
            let d = put_done (put_later sane accepted ∙ ap (λ (o : Option ℕ). answering (maybe (no_free_slot l s ∷ no_room l s form ∷ []) (λ k. []) o)) c) in
            (d.0 ∙ ap (maybe (new_at (lowest_free l s)) copy_at) c, d.1 ∙ ap (maybe (with_text l s form) (λ k. with_copy l s)) c)

        module _ (fresh : copy_of l s form ≡ none) where
          as_new : put_refusal l s input ≡ answering (no_free_slot l s ∷ no_room l s form ∷ [])
          unfolding for_new maybe
          as_new =
              put_later sane accepted ∙ ap (λ (o : Option ℕ). answering (maybe (no_free_slot l s ∷ no_room l s form ∷ []) (λ k. []) o)) fresh

          -- "17 no free slot (place 64)"
          pub put_full : is_empty (free s) ≡ true → put_refusal l s input ≡ some (record { fault = NoFreeSlot; place = 64 })
          unfolding no_free_slot
          put_full e = as_new ∙ one_place NoFreeSlot 64 (no_room l s form ∷ []) e

          -- "18 fewer free bytes than the text needs (place: bytes needed)"
          pub put_roomless : is_empty (free s) ≡ false → length s < end_of l s + length form
              → put_refusal l s input ≡ some (record { fault = NoRoom; place = length form })
          unfolding no_free_slot no_room
          put_roomless e h =
              as_new
              ∙ one_place NoFreeSlot 64 (no_room l s form ∷ []) e
              ∙ one_place NoRoom (length form) [] (lt-ltb (length s) (end_of l s + length form) h)

          pub put_unrefused : is_empty (free s) ≡ false → end_of l s + length form ≤ length s → put_refusal l s input ≡ none
          unfolding no_free_slot no_room answering
          put_unrefused e h =
              as_new
              ∙ one_place NoFreeSlot 64 (no_room l s form ∷ []) e
              ∙ one_place NoRoom (length form) [] (le-ltb (length s) (end_of l s + length form) h)

          -- "else it goes behind the last text and into the lowest free slot"
          pub put_new_lem : is_empty (free s) ≡ false → end_of l s + length form ≤ length s
              → (put l s input ≡ new_at (lowest_free l s)) × (put_shelf l s input ≡ with_text l s form)
          unfolding maybe
          put_new_lem e h =
              let d = put_done (put_unrefused e h) in
              (d.0 ∙ ap (maybe (new_at (lowest_free l s)) copy_at) fresh, d.1 ∙ ap (maybe (with_text l s form) (λ k. with_copy l s)) fresh)

    -- ---- Get and Remove

    module _ (slot : ℕ) where
      -- the slot is one of the 64, and occupied
      abbrev pub there : Bool
      there = ltb slot slot_count && is_occupied s slot

      pub slot_unsound : sound l s ≡ false → slot_refusal l s slot ≡ some nineteen
      unfolding slot_refusal
      slot_unsound e = unsound_answers (met FreeSlot (place_if (not there) slot) ∷ []) e

      -- "20 for get or remove of a free slot or a slot above 63 (place: the slot), after 19"
      pub slot_free : sound l s ≡ true → there ≡ false → slot_refusal l s slot ≡ some (record { fault = FreeSlot; place = slot })
      unfolding slot_refusal
      slot_free e f = sound_answers (met FreeSlot (place_if (not there) slot) ∷ []) e ∙ one_place FreeSlot slot [] (ap not f)

      pub slot_there : sound l s ≡ true → there ≡ true → slot_refusal l s slot ≡ none
      unfolding slot_refusal answering
      slot_there e f = sound_answers (met FreeSlot (place_if (not there) slot) ∷ []) e ∙ one_place FreeSlot slot [] (ap not f)

      -- refused: zero bytes at the shelf's start, and the shelf stays
      pub slot_refused : {r : Refusal} → slot_refusal l s slot ≡ some r
          → (length_answer l s slot ≡ refused r) × (got_offset l s slot ≡ 0) × (got_length l s slot ≡ 0) × (remove_shelf l s slot ≡ s)
      unfolding length_answer got_offset got_length remove_shelf maybe unless_refused
      slot_refused e = (
        ap (maybe (given (length_of l s slot ∷ [])) refused) e,
        ap (λ (o : Option Refusal). unless_refused o (start_of l s slot) 0) e,
        ap (λ (o : Option Refusal). unless_refused o (length_of l s slot) 0) e,
        ap (λ (o : Option Refusal). unless_refused o (without l s slot) s) e,
      )

      -- not refused: the text where it stands, and the shelf without it
      pub slot_given : slot_refusal l s slot ≡ none
          → (length_answer l s slot ≡ given (length_of l s slot ∷ []))
          × (got_offset l s slot ≡ start_of l s slot)
          × (got_length l s slot ≡ length_of l s slot)
          × (remove_shelf l s slot ≡ without l s slot)
      unfolding length_answer got_offset got_length remove_shelf maybe unless_refused
      slot_given e = (
        ap (maybe (given (length_of l s slot ∷ [])) refused) e,
        ap (λ (o : Option Refusal). unless_refused o (start_of l s slot) 0) e,
        ap (λ (o : Option Refusal). unless_refused o (length_of l s slot) 0) e,
        ap (λ (o : Option Refusal). unless_refused o (without l s slot) s) e,
      )
