-- Requests 2026-04 and 2026-06: what follows for the shelf. Each field is a theorem; `proofs/Theorems.antt` proves the record for every layout
-- whose pairs stand behind the map. Assumes nothing.
use Rattle.std.specs.Prelude.{ℕ, ◌+◌, ◌≤◌, ◌<◌, min, ◌≡◌, true, List, [], ◌∷◌, ◌⊎◌, ◌↔◌, length, take, drop}
use Rattle.std.proofs.Math.Option.{none, some}
use Rattle.refusals.specs.declared.Fault.{Fault}
use Rattle.refusals.specs.declared.Fault.TheVariants.{NoFreeSlot, NoRoom, UnsoundShelf, FreeSlot}
use Rattle.refusals.specs.declared.Refusal.{Refusal}
use Rattle.stages.specs.Contents.{normal_form}
use Rattle.stages.specs.Stages.{refusal_of}
use Rattle.answers.specs.Answers.{Answer, given, refused}
use Rattle.shelves.specs.Layout.{Layout, Occupied, Free, held_figure, duplicates_of, is_occupied, occupied, start_of, text_of, held, end_of}
use Rattle.shelves.specs.Soundness.{is_sized, sound}
use Rattle.shelves.specs.Answers.{new_at, copy_at}
use Rattle.shelves.specs.Operations.{start, start_shelf, slots_of, sums_of, put, with_copy, put_shelf, got_offset, got_length, length_answer, remove, remove_shelf}
use Rattle.shelf_laws.specs.InWords.{SoundInWords}
use Rattle.shelf_laws.specs.Histories.{Operation, after_all, all_put, all_removed, all_copied}

-- the answer that refuses with this fault at this place
abbrev pub refused_at : Fault → ℕ → Answer
refused_at fault place = refused (record { fault = fault; place = place })

module _ (l : Layout) where
  abbrev pub Sound : List ℕ → Type 0
  Sound s = sound l s ≡ true

  -- the part that Get hands back
  abbrev pub got : List ℕ → ℕ → List ℕ
  got s slot = take (got_length l s slot) (drop (got_offset l s slot) s)

  -- Put answers this slot, of a new text or of a copy
  abbrev pub Keeps : (s input : List ℕ) (slot : ℕ) → Type 0
  Keeps s input slot = (put l s input ≡ new_at slot) ⊎ (put l s input ≡ copy_at slot)

  -- an accepted interchange whose normal form is not in the sound shelf: "a new text"
  abbrev pub New : (s input : List ℕ) → Type 0
  New s input = Sound s × (refusal_of input ≡ none) × ((k : ℕ) → Occupied s k → text_of l s k ≡ normal_form input → ⊥)

  -- the layout has the two sums
  abbrev pub WithSums : Type 0
  WithSums = 21 ≤ l.pairs

pub record Shelf (l : Layout) : Type 0 where
  -- soundness is what the request says
  pub sound_words : (s : List ℕ) → Sound l s ↔ SoundInWords l s
  -- 19 comes first, at 0: it is answered exactly where the shelf is not sound, whatever the input or the slot; by Start, exactly where the
  -- buffer is outside the sizes
  pub start_nineteen : (buffer : List ℕ) → (start l buffer ≡ refused_at UnsoundShelf 0) ↔ (is_sized l buffer ≡ true → ⊥)
  pub put_nineteen : (s input : List ℕ) → (put l s input ≡ refused_at UnsoundShelf 0) ↔ (Sound l s → ⊥)
  pub get_nineteen : (s : List ℕ) (slot : ℕ) → (length_answer l s slot ≡ refused_at UnsoundShelf 0) ↔ (Sound l s → ⊥)
  pub remove_nineteen : (s : List ℕ) (slot : ℕ) → (remove l s slot ≡ refused_at UnsoundShelf 0) ↔ (Sound l s → ⊥)
  pub slots_nineteen : (s : List ℕ) → (slots_of l s ≡ refused_at UnsoundShelf 0) ↔ (Sound l s → ⊥)
  pub sums_nineteen : (s : List ℕ) → (sums_of l s ≡ refused_at UnsoundShelf 0) ↔ (Sound l s → ⊥)
  -- then Judge's; then a text that is there is found, under any spelling, and the duplicates figure alone changes, where there is one
  pub put_judged : (s input : List ℕ) (r : Refusal) → Sound l s → refusal_of input ≡ some r → put l s input ≡ refused r
  pub put_there : (s other : List ℕ) (k : ℕ) → Sound l s → Occupied s k → refusal_of other ≡ none → normal_form other ≡ text_of l s k
      → (put l s other ≡ copy_at k) × (put_shelf l s other ≡ with_copy l s)
  -- then, for a new text, 17 and then 18, and else it is kept; 20 after 19
  pub put_full : (s input : List ℕ) → New l s input → ((k : ℕ) → Free s k → ⊥) → put l s input ≡ refused_at NoFreeSlot 64
  pub put_roomless : (s input : List ℕ) (k : ℕ) → New l s input → Free s k → length s < end_of l s + length (normal_form input)
      → put l s input ≡ refused_at NoRoom (length (normal_form input))
  pub put_kept : (s input : List ℕ) (k : ℕ) → New l s input → Free s k → end_of l s + length (normal_form input) ≤ length s
      → (j : ℕ) × (put l s input ≡ new_at j) × (j ≤ k)
  pub not_occupied : (s : List ℕ) (slot : ℕ) → Sound l s → (Occupied s slot → ⊥)
      → (length_answer l s slot ≡ refused_at FreeSlot slot) × (remove l s slot ≡ refused_at FreeSlot slot)
  -- a refused call changes nothing
  pub start_refused : (buffer : List ℕ) (r : Refusal) → start l buffer ≡ refused r → start_shelf l buffer ≡ buffer
  pub put_refused : (s input : List ℕ) (r : Refusal) → put l s input ≡ refused r → put_shelf l s input ≡ s
  pub remove_refused : (s : List ℕ) (slot : ℕ) (r : Refusal) → remove l s slot ≡ refused r → remove_shelf l s slot ≡ s
  pub get_refused : (s : List ℕ) (slot : ℕ) (r : Refusal) → length_answer l s slot ≡ refused r → (got_offset l s slot ≡ 0) × (got_length l s slot ≡ 0)
  -- every operation keeps a sound shelf sound
  pub start_sound : (buffer : List ℕ) → is_sized l buffer ≡ true → Sound l (start_shelf l buffer) × (occupied (start_shelf l buffer) ≡ [])
  pub put_sound : (s input : List ℕ) → Sound l s → Sound l (put_shelf l s input)
  pub remove_sound : (s : List ℕ) (slot : ℕ) → Sound l s → Sound l (remove_shelf l s slot)
  -- what was put is got back, and every other slot, occupied or free or above 63, says what it said
  pub put_get : (s input : List ℕ) (slot : ℕ) → Keeps l s input slot → got l (put_shelf l s input) slot ≡ normal_form input
  pub put_others : (s input : List ℕ) (k : ℕ) → Sound l s → (put l s input ≡ new_at k → ⊥)
      → (length_answer l (put_shelf l s input) k ≡ length_answer l s k) × (got l (put_shelf l s input) k ≡ got l s k)
  pub remove_others : (s : List ℕ) (slot k : ℕ) → Sound l s → (k ≡ slot → ⊥)
      → (length_answer l (remove_shelf l s slot) k ≡ length_answer l s k) × (got l (remove_shelf l s slot) k ≡ got l s k)
  -- a new text goes behind the last one and into the lowest free slot, which the map tells; one slot more is occupied
  pub put_place : (s input : List ℕ) (slot : ℕ) → put l s input ≡ new_at slot
      → Free s slot × ((k : ℕ) → k < slot → is_occupied s k ≡ true) × (start_of l (put_shelf l s input) slot ≡ end_of l s)
      × (end_of l (put_shelf l s input) ≡ end_of l s + length (normal_form input))
  pub put_slots : (s input : List ℕ) (slot : ℕ) → put l s input ≡ new_at slot
      → (slots_of l s ≡ given (length (occupied s) ∷ slot ∷ [])) × (length (occupied (put_shelf l s input)) ≡ length (occupied s) + 1)
  -- the same interchange under any spelling is kept once
  pub put_again : (s input other : List ℕ) (slot : ℕ) → Keeps l s input slot → refusal_of other ≡ none → normal_form other ≡ normal_form input
      → (put l (put_shelf l s input) other ≡ copy_at slot) × (put_shelf l (put_shelf l s input) other ≡ with_copy l (put_shelf l s input))
  -- Remove frees the slot and the bytes; a text that lay behind starts so much lower, one that lay before stays
  pub remove_frees : (s : List ℕ) (slot n : ℕ) → remove l s slot ≡ given (n ∷ [])
      → (n ≡ length (got l s slot)) × Free (remove_shelf l s slot) slot × (end_of l (remove_shelf l s slot) + n ≡ end_of l s)
  pub remove_moves : (s : List ℕ) (slot n k : ℕ) → remove l s slot ≡ given (n ∷ []) → Occupied s k → (k ≡ slot → ⊥)
      → (start_of l s k < start_of l s slot → start_of l (remove_shelf l s slot) k ≡ start_of l s k)
      × (start_of l s slot < start_of l s k → start_of l (remove_shelf l s slot) k + n ≡ start_of l s k)
  pub remove_slots : (s : List ℕ) (slot n : ℕ) → remove l s slot ≡ given (n ∷ [])
      → length (occupied (remove_shelf l s slot)) + 1 ≡ length (occupied s)
  -- what was removed is gone: put again, it is new; and its slot and its bytes are free for any text
  pub remove_gone : (s : List ℕ) (slot n : ℕ) (input : List ℕ) → remove l s slot ≡ given (n ∷ []) → refusal_of input ≡ none
      → normal_form input ≡ got l s slot → (k : ℕ) × (put l (remove_shelf l s slot) input ≡ new_at k) × (k ≤ slot)
  pub remove_put : (s : List ℕ) (slot n : ℕ) (input : List ℕ) → remove l s slot ≡ given (n ∷ []) → refusal_of input ≡ none
      → end_of l s + length (normal_form input) ≤ length s + n
      → (k : ℕ) × Keeps l (remove_shelf l s slot) input k × (put l (remove_shelf l s slot) input ≡ new_at k → k ≤ slot)
  -- the two sums of a sound shelf, as its head has them; the second "rises by one at each put that finds its copy, and stays at
  -- 4,294,967,295", and no other call but Start changes it
  pub sums_given : (s : List ℕ) → WithSums l → Sound l s → (sums_of l s ≡ given (held l s ∷ duplicates_of s ∷ [])) × (held_figure s ≡ held l s)
  pub start_figure : (buffer : List ℕ) → WithSums l → is_sized l buffer ≡ true → duplicates_of (start_shelf l buffer) ≡ 0
  pub put_raises : (s input : List ℕ) (slot : ℕ) → WithSums l → put l s input ≡ copy_at slot
      → duplicates_of (put_shelf l s input) ≡ min (duplicates_of s + 1) 4294967295
  pub put_figure : (s input : List ℕ) → WithSums l → ((k : ℕ) → put l s input ≡ copy_at k → ⊥) → duplicates_of (put_shelf l s input) ≡ duplicates_of s
  pub remove_figure : (s : List ℕ) (slot : ℕ) → WithSums l → duplicates_of (remove_shelf l s slot) ≡ duplicates_of s
  -- a layout without the figure: a copy changes nothing
  pub copy_stays : (s : List ℕ) → l.pairs ≤ 17 → with_copy l s ≡ s
  -- "From an empty shelf, the bytes held always equal the lengths newly put less the lengths removed." And from any sound shelf: what it
  -- held at first counts as put.
  pub histories : (s : List ℕ) (os : List Operation) → Sound l s → occupied s ≡ []
      → Sound l (after_all l s os) × (all_put l s os ≡ held l (after_all l s os) + all_removed l s os)
  pub histories_on : (s : List ℕ) (os : List Operation) → Sound l s
      → Sound l (after_all l s os) × (held l s + all_put l s os ≡ held l (after_all l s os) + all_removed l s os)
  -- after any list of operations the first figure is the sum of the lengths, and the second is what it was and the number of puts that found
  -- their copy, up to its ceiling; from a started shelf, that number
  pub figures : (s : List ℕ) (os : List Operation) → WithSums l → Sound l s → duplicates_of s ≤ 4294967295
      → (held_figure (after_all l s os) ≡ held l (after_all l s os))
      × (duplicates_of (after_all l s os) ≡ min (duplicates_of s + all_copied l s os) 4294967295)
  pub figures_started : (buffer : List ℕ) (os : List Operation) → WithSums l → is_sized l buffer ≡ true
      → duplicates_of (after_all l (start_shelf l buffer) os) ≡ min (all_copied l (start_shelf l buffer) os) 4294967295
