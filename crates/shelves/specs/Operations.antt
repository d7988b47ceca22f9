-- Requests 2026-04 and 2026-06: Start, Put, Get, Remove, the two numbers read off the map, and the two sums. Assumes nothing.
use Rattle.std.specs.Prelude.{ℕ, ◌+◌, ◌-◌, not, ◌&&◌, List, [], ◌∷◌, ◌++◌, length, take, drop, replicate, eqb, ltb, if◌then◌else◌}
use Rattle.std.proofs.Math.Option.{Option}
use Rattle.std.proofs.lemmas.List.Edits.{sets}
use Rattle.lists.specs.Lists.{same, first, at, gather, is_empty, maybe}
use Rattle.numbers.specs.Numbers.{in_bytes}
use Rattle.refusals.specs.declared.Fault.TheVariants.{NoFreeSlot, NoRoom, UnsoundShelf, FreeSlot}
use Rattle.refusals.specs.declared.Refusal.{Refusal}
use Rattle.refusals.specs.Refusals.{Stage, met, place_if, answering}
use Rattle.stages.specs.Contents.{normal_form}
use Rattle.stages.specs.Stages.{stages}
use Rattle.answers.specs.Answers.{Answer, given, refused}
use Rattle.operations.specs.Judge.{unless_refused}
use Rattle.shelves.specs.Layout.{Layout, slot_count, map_place, duplicates_place, below, duplicates_of, is_occupied, occupied, free, heading, pair_place, start_of, length_of, text_of, held, end_of}
use Rattle.shelves.specs.Soundness.{is_sized, sound}
use Rattle.shelves.specs.Answers.{new_at, copy_at}
use Rattle.shelves.specs.Summary.{summary_of, put_new, put_copy, removed, map_and_held, duplicates_in}

-- a slot's pair
unfoldable pub pair_of : (start size : ℕ) → List ℕ
pair_of start size = in_bytes 4 start ++ in_bytes 4 size

module _ (l : Layout) where
  -- ---- Start

  -- "for Start a buffer outside those sizes (place 0)"
  unfoldable pub start_refusal : List ℕ → Option Refusal
  start_refusal buffer = answering (met UnsoundShelf (place_if (not (is_sized l buffer)) 0) ∷ [])

  -- an empty shelf of so many bytes
  unfoldable pub empty_shelf : ℕ → List ℕ
  empty_shelf size = heading l ++ replicate (size - length (heading l)) 0

  -- Start says that it did, or the refusal
  unfoldable pub start : List ℕ → Answer
  start buffer = maybe (given []) refused (start_refusal buffer)

  -- "Start writes an empty shelf over a lent buffer."
  unfoldable pub start_shelf : List ℕ → List ℕ
  start_shelf buffer = unless_refused (start_refusal buffer) (empty_shelf (length buffer)) buffer

  -- ---- what is asked of any shelf

  -- 19: "no sound shelf .. (place 0)"
  unfoldable pub unsound : List ℕ → Stage
  unsound s = met UnsoundShelf (place_if (not (sound l s)) 0)

  -- "The number of occupied slots and the lowest free one are read off the map"; 64 where none is free
  unfoldable pub lowest_free : List ℕ → ℕ
  lowest_free s = maybe slot_count (λ k. k) (at (free s) 0)

  unfoldable pub slots_of : List ℕ → Answer
  slots_of s = maybe (given (length (occupied s) ∷ lowest_free s ∷ [])) refused (answering (unsound s ∷ []))

  -- the text bytes held and the duplicates found
  unfoldable pub sums_of : List ℕ → Answer
  sums_of s = maybe (given (held l s ∷ duplicates_of s ∷ [])) refused (answering (unsound s ∷ []))

  -- ---- Put

  -- the slot of a text that is kept already
  unfoldable pub copy_of : List ℕ → (form : List ℕ) → Option ℕ
  copy_of s form = first (λ k. same (text_of l s k) form) (occupied s)

  -- "for a new text, 17 no free slot (place 64), 18 fewer free bytes than the text needs (place: bytes needed)"
  unfoldable pub no_free_slot : List ℕ → Stage
  no_free_slot s = met NoFreeSlot (place_if (is_empty (free s)) slot_count)

  unfoldable pub no_room : List ℕ → (form : List ℕ) → Stage
  no_room s form = met NoRoom (place_if (ltb (length s) (end_of l s + length form)) (length form))

  unfoldable pub for_new : List ℕ → (form : List ℕ) → List Stage
  for_new s form = maybe (no_free_slot s ∷ no_room s form ∷ []) (λ k. []) (copy_of s form)

  -- "19 .., then Judge's, then, for a new text, 17 .., 18 .."
  unfoldable pub put_refusal : (s input : List ℕ) → Option Refusal
  put_refusal s input = answering (unsound s ∷ (stages input ++ for_new s (normal_form input)))

  -- "if its normal form is there, the answer is that slot; else it goes .. into the lowest free slot"; and whether the text is new
  unfoldable pub put : (s input : List ℕ) → Answer
  put s input =
      maybe (maybe (new_at (lowest_free s)) copy_at (copy_of s (normal_form input))) refused (put_refusal s input)

  -- "behind the last text and into the lowest free slot"
  unfoldable pub with_text : List ℕ → (form : List ℕ) → List ℕ
  with_text s form =
      let slot = lowest_free s in
      let stored = sets s (end_of l s) form in
      let paired = sets stored (pair_place l slot) (pair_of (end_of l s) (length form)) in
      sets paired map_place (map_and_held l (put_new (summary_of s) slot (length form)))

  -- a copy was found: only the duplicates figure changes, where the layout has one
  unfoldable pub with_copy : List ℕ → List ℕ
  with_copy s = sets s duplicates_place (duplicates_in l (put_copy (summary_of s)))

  unfoldable pub put_shelf : (s input : List ℕ) → List ℕ
  put_shelf s input =
      let kept = maybe (with_text s (normal_form input)) (λ k. with_copy s) (copy_of s (normal_form input)) in
      unless_refused (put_refusal s input) kept s

  -- ---- Get

  -- "20 for get or remove of a free slot or a slot above 63 (place: the slot), after 19"
  unfoldable pub slot_refusal : List ℕ → (slot : ℕ) → Option Refusal
  slot_refusal s slot = answering (unsound s ∷ met FreeSlot (place_if (not (ltb slot slot_count && is_occupied s slot)) slot) ∷ [])

  -- "Get hands back the kept text as a part of the shelf, or zero bytes at its start where refused."
  unfoldable pub got_offset : List ℕ → (slot : ℕ) → ℕ
  got_offset s slot = unless_refused (slot_refusal s slot) (start_of l s slot) 0

  unfoldable pub got_length : List ℕ → (slot : ℕ) → ℕ
  got_length s slot = unless_refused (slot_refusal s slot) (length_of l s slot) 0

  -- Get's companion says how long the text is, or what refuses it
  unfoldable pub length_answer : List ℕ → (slot : ℕ) → Answer
  length_answer s slot = maybe (given (length_of l s slot ∷ [])) refused (slot_refusal s slot)

  -- ---- Remove

  -- "Remove answers the length"
  unfoldable pub remove : List ℕ → (slot : ℕ) → Answer
  remove s slot = length_answer s slot

  -- a slot's pair after another text was removed: a text that lay after it starts so many bytes lower; the removed one's pair is zero
  unfoldable pub pair_without : List ℕ → (removed slot : ℕ) → List ℕ
  pair_without s removed slot =
      if eqb slot removed then pair_of 0 0
      else (if ltb (start_of l s removed) (start_of l s slot)
      then pair_of (start_of l s slot - length_of l s removed) (length_of l s slot)
      else pair_of (start_of l s slot) (length_of l s slot))

  -- "moves later texts down and zeroes what was vacated"
  unfoldable pub texts_without : List ℕ → (slot : ℕ) → List ℕ
  texts_without s slot =
      let after = start_of l s slot + length_of l s slot in
      take (end_of l s - after) (drop after s) ++ replicate (length_of l s slot) 0

  unfoldable pub without : List ℕ → (slot : ℕ) → List ℕ
  without s slot =
      let moved = sets s (start_of l s slot) (texts_without s slot) in
      let paired = sets moved l.pairs (gather (pair_without s slot) (below slot_count)) in
      sets paired map_place (map_and_held l (removed (summary_of s) slot (length_of l s slot)))

  unfoldable pub remove_shelf : List ℕ → (slot : ℕ) → List ℕ
  remove_shelf s slot = unless_refused (slot_refusal s slot) (without s slot) s
