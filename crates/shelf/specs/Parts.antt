-- What the parts of the shelf's operations leave: a text put where the shelf is sound, a kept text asked for, a pair stored without a text that
-- was removed; and the operations that are lent the summary, over whose head the caller stores it. Assumes nothing.
use Rattle.refusals.specs.declared.Fault.TheVariants.{FreeSlot}
use Rattle.refusals.specs.declared.Refusal.{Refusal}
use Rattle.refusals.specs.Refusals.{Outcome, met, place_if, answering, outcome}
use Rattle.answers.specs.Answers.{Stored}
use Rattle.std.specs.Prelude.{ℕ, ◌-◌, ◌≤◌, ◌<◌, ◌≡◌, Bool, false, not, ◌&&◌, List, [], ◌∷◌, eqb, ltb, length, if◌then◌else◌, Option, MatchOption, Result}
use Rattle.std.proofs.Math.Option.{none, some}
use Rattle.std.proofs.lemmas.List.Edits.{sets}
use Rattle.lists.specs.Lists.{same, gather}
use Rattle.stages.specs.Contents.{normal_form}
use Rattle.stages.specs.Stages.{refusal_of}
use Rattle.shelves.specs.declared.Summary.{Summary}
use Rattle.shelves.specs.Layout.{Layout, version_two, slot_count, below, bit, is_occupied, pair_place, start_of, length_of, text_of, end_of}
use Rattle.shelves.specs.Summary.{summary_of}
use Rattle.shelves.specs.Operations.{pair_of, lowest_free, copy_of, got_offset, got_length, pair_without, texts_without}
use Rattle.shelf_contracts.specs.Promises.{Puts, Removes}
use Rattle.shelf_summary.specs.declared.Placed.{Placed}
use Rattle.shelf_summary.specs.Steps.{stored_back, shelved_of, after_put, PutFits, after_remove, RemoveFits}
use Rattle.values.specs.declared.Span.{Span}

module _ (l : Layout) where
  -- the text behind the last one and its pair, before the head is stored
  unfoldable pub stowed : (s form : List ℕ) → List ℕ
  stowed s form =
      sets (sets s (end_of l s) form) (pair_place l (lowest_free l s)) (pair_of (end_of l s) (length form))

  -- the same of a text that is taken out
  unfoldable pub cleared : List ℕ → (slot : ℕ) → List ℕ
  cleared s slot =
      sets (sets s (start_of l s slot) (texts_without l s slot)) l.pairs (gather (pair_without l s slot) (below slot_count))

  -- Put, all but the head: with the summary that it makes stored there it is Put, and that summary can be made
  abbrev pub PutsText : (s input : List ℕ) → Result Placed Refusal → (after : List ℕ) → Type 0
  PutsText s input r after =
      Puts l s input (shelved_of r) (stored_back after (after_put (summary_of s) r)) × PutFits (summary_of s) r

  -- Put of any interchange that is accepted and has this normal form
  abbrev pub PutsForm : (s form : List ℕ) → Result Placed Refusal → (after : List ℕ) → Type 0
  PutsForm s form r after = (input : List ℕ) → refusal_of input ≡ none → normal_form input ≡ form → PutsText s input r after

  -- Remove, all but the head
  abbrev pub TakesText : (s : List ℕ) (slot : ℕ) → Stored → (after : List ℕ) → Type 0
  TakesText s slot r after =
      Removes l s slot r (stored_back after (after_remove (summary_of s) slot r)) × RemoveFits (summary_of s) slot r

  -- a slot keeps this text
  unfoldable pub keeps_text : (s form : List ℕ) → ℕ → Bool
  keeps_text s form k = if is_occupied s k then same (text_of l s k) form else false

  -- the slot of the copy, if there is one
  abbrev pub CopyAt : (s form : List ℕ) → Option ℕ → Type 0
  CopyAt s form found = MatchOption found (copy_of l s form ≡ none) (λ slot. copy_of l s form ≡ some slot)

  -- which part of the shelf Get hands back
  unfoldable pub got_span : (s : List ℕ) (slot : ℕ) → Span
  got_span s slot = record { offset = got_offset l s slot; length = got_length l s slot }

  -- texts that lie after the removed one can be moved down by its length
  abbrev pub Lowers : (s : List ℕ) (removed : ℕ) → Type 0
  Lowers s removed =
      (k : ℕ) → k < slot_count → start_of l s removed < start_of l s k → length_of l s removed ≤ start_of l s k

-- 20: a slot above 63, or one that is free in this map
unfoldable pub asked_slot : (map slot : ℕ) → Outcome
asked_slot map slot = outcome (answering (met FreeSlot (place_if (not (ltb slot slot_count && bit map slot)) slot) ∷ []))

-- a slot's pair, start and length, after the text of another slot was removed
unfoldable pub lowered_pair : (removed start size slot : ℕ) → (a n : ℕ) → List ℕ
lowered_pair removed start size slot a n =
    if eqb slot removed then pair_of 0 0 else (if ltb start a then pair_of (a - size) n else pair_of a n)

-- the operations that are lent the summary: with it stored at the head, they are Put and Remove
abbrev pub PutsLent : (s input : List ℕ) → Result Placed Refusal → (after : List ℕ) (u : Summary) → Type 0
PutsLent s input r after u = Puts version_two s input (shelved_of r) (stored_back after u)

abbrev pub RemovesLent : (s : List ℕ) (slot : ℕ) → Stored → (after : List ℕ) (u : Summary) → Type 0
RemovesLent s slot r after u = Removes version_two s slot r (stored_back after u)
