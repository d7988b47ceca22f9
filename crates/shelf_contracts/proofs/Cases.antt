-- What each contract allows, case by case: which answer, which bytes of the shelf at exit, which part of it is handed back. Assumes nothing.
use Rattle.refusals.specs.Refusals.{Outcome}
use Rattle.std.specs.Prelude.{Ok, Err, Result}
use Prim.Native.Nat.{ℕ, ◌+◌, ◌≤◌}
use mathlib.Core.Path.{◌≡◌, ap₂, subst, ◌∙◌}
use mathlib.Core.Bool.{Bool, true, false, ◌&&◌}
use mathlib.Core.List.{List}
use mathlib.Core.Option.{none, some}
use lib.ListN.{length}
use borrow.Author.Tests.{lt-ltb}
use denote.Ref.{Bor}
use Rattle.lists.specs.Lists.{is_empty}
use Rattle.refusals.specs.declared.Refusal.{Refusal}
use Rattle.stages.specs.Contents.{normal_form}
use Rattle.stages.specs.Stages.{refusal_of}
use Rattle.answers.specs.Answers.{told_stored, Stored}
use Rattle.contracts.specs.Promises.{IsPart}
use Rattle.contracts.proofs.Told.{stored_tells}
use Rattle.shelves.specs.declared.Shelved.{Shelved}
use Rattle.shelves.specs.declared.Shelved.TheVariants as shelved
use Rattle.shelves.specs.declared.Slots.{Slots}
use Rattle.shelves.specs.declared.TwoSums.{TwoSums}
use Rattle.shelves.specs.Layout.{Layout, duplicates_of, Occupied, occupied, free, start_of, length_of, held, end_of}
use Rattle.shelves.specs.Soundness.{is_sized, sound}
use Rattle.shelves.specs.Answers.{told_shelved, told_slots, told_sums, told_outcome}
use Rattle.shelves.specs.Operations.{empty_shelf, lowest_free, copy_of, put_refusal, with_text, with_copy, slot_refusal, got_offset, got_length, remove, without}
use Rattle.shelves.proofs.Answered.{nineteen, start_refused, start_done, slots_refused, slots_given, sums_refused, sums_given, put_refused, put_copy, put_new_lem, slot_there, slot_refused, slot_given}
use Rattle.shelf_contracts.specs.Promises.{Starts, Puts, Gets, Measures, Removes, Counts, Sums}
use Rattle.shelf_contracts.proofs.Told.{outcome_tells, shelved_tells, slots_tells, sums_tells}

module _ (l : Layout) where
  -- an empty shelf as long as the buffer; or 19 at 0, and the buffer as it was
  pub starts : (buffer : List ℕ) (r : Outcome) (after : List ℕ) → Starts l buffer r after
      → (is_sized l buffer ≡ true → (r ≡ Ok tt) × (after ≡ empty_shelf l (length buffer)))
      × (is_sized l buffer ≡ false → (r ≡ Err nineteen) × (after ≡ buffer))
  unfolding told_outcome
  starts buffer r after h = (
    λ e. let told = start_done l buffer e in (outcome_tells r (Ok tt) (h.0 ∙ told.0), h.1 ∙ told.1),
    λ e. let told = start_refused l buffer e in (outcome_tells r (Err nineteen) (h.0 ∙ told.0), h.1 ∙ told.1),
  )

  -- where something refuses it: the refusal, and the shelf as it was
  pub puts_nothing : (s input : List ℕ) (r : Result Shelved Refusal) (after : List ℕ) → Puts l s input r after
      → (q : Refusal) → put_refusal l s input ≡ some q → (r ≡ Err q) × (after ≡ s)
  unfolding told_shelved
  puts_nothing s input r after h q e =
      let told = put_refused l s input e in (shelved_tells r (Err q) (h.0 ∙ told.0), h.1 ∙ told.1)

  -- the slot of the copy that is there, and a duplicate more; or the lowest free slot, and the normal form put into it
  pub puts : (s input : List ℕ) (r : Result Shelved Refusal) (after : List ℕ) → Puts l s input r after → sound l s ≡ true → refusal_of input ≡ none
      → ((k : ℕ) → copy_of l s (normal_form input) ≡ some k → (r ≡ Ok (shelved.Copy k)) × (after ≡ with_copy l s))
      × (copy_of l s (normal_form input) ≡ none → is_empty (free s) ≡ false → end_of l s + length (normal_form input) ≤ length s
      → (r ≡ Ok (shelved.New (lowest_free l s))) × (after ≡ with_text l s (normal_form input)))
  unfolding told_shelved
  puts s input r after h sane accepted = (
    λ k e. let told = put_copy l s input sane accepted e in (shelved_tells r (Ok (shelved.Copy k)) (h.0 ∙ told.0), h.1 ∙ told.1),
    λ fresh some fits.
        let told = put_new_lem l s input sane accepted fresh some fits in
        (shelved_tells r (Ok (shelved.New (lowest_free l s))) (h.0 ∙ told.0), h.1 ∙ told.1),
  )

  -- an occupied slot of a sound shelf is refused by nothing
  unrefused : (s : List ℕ) (slot : ℕ) → sound l s ≡ true → Occupied s slot → slot_refusal l s slot ≡ none
  unrefused s slot sane o = slot_there l s slot sane (ap₂ (λ (a b : Bool). a && b) (lt-ltb slot 64 o.0) o.1)

  -- the part of the shelf that the slot's pair names; or zero bytes at its start
  pub gets : (s : Bor (List ℕ)) (slot : ℕ) (r : Bor (List ℕ)) → Gets l s slot r
      → (sound l s.now ≡ true → Occupied s.now slot → IsPart s (start_of l s.now slot) (length_of l s.now slot) r)
      × ((q : Refusal) → slot_refusal l s.now slot ≡ some q → IsPart s 0 0 r)
  gets s slot r h =
      let part : (offset size : ℕ) → got_offset l s.now slot ≡ offset → got_length l s.now slot ≡ size → IsPart s offset size r =
      λ offset size e d. subst (λ (n : ℕ). IsPart s n size r) e (subst (λ (n : ℕ). IsPart s (got_offset l s.now slot) n r) d h) in (
        λ sane o.
            let told = slot_given l s.now slot (unrefused s.now slot sane o) in
            part (start_of l s.now slot) (length_of l s.now slot) told.1 told.2,
        λ q e. let told = slot_refused l s.now slot e in part 0 0 told.1 told.2,
      )

  -- the length of that slot's text, or what refused it
  pub measures : (s : List ℕ) (slot : ℕ) (r : Stored) → Measures l s slot r
      → (sound l s ≡ true → Occupied s slot → r ≡ Ok (length_of l s slot))
      × ((q : Refusal) → slot_refusal l s slot ≡ some q → r ≡ Err q)
  unfolding told_stored
  measures s slot r h = (
    λ sane o. stored_tells r (Ok (length_of l s slot)) (h ∙ (slot_given l s slot (unrefused s slot sane o)).0),
    λ q e. stored_tells r (Err q) (h ∙ (slot_refused l s slot e).0),
  )

  -- the length, and the shelf without that slot's text; or the refusal, and the shelf as it was
  pub removes : (s : List ℕ) (slot : ℕ) (r : Stored) (after : List ℕ) → Removes l s slot r after
      → (sound l s ≡ true → Occupied s slot → (r ≡ Ok (length_of l s slot)) × (after ≡ without l s slot))
      × ((q : Refusal) → slot_refusal l s slot ≡ some q → (r ≡ Err q) × (after ≡ s))
  unfolding told_stored remove
  removes s slot r after h = (
    λ sane o.
        let told = slot_given l s slot (unrefused s slot sane o) in
        (stored_tells r (Ok (length_of l s slot)) (h.0 ∙ told.0), h.1 ∙ told.3),
    λ q e. let told = slot_refused l s slot e in (stored_tells r (Err q) (h.0 ∙ told.0), h.1 ∙ told.3),
  )

  -- how many slots are occupied, then the lowest free one
  pub counts : (s : List ℕ) (r : Result Slots Refusal) → Counts l s r
      → (sound l s ≡ true → r ≡ Ok (record { occupied = length (occupied s); lowest_free = lowest_free l s })) × (sound l s ≡ false → r ≡ Err nineteen)
  unfolding told_slots
  counts s r h = (
    λ e. slots_tells r (Ok (record { occupied = length (occupied s); lowest_free = lowest_free l s })) (h ∙ slots_given l s e),
    λ e. slots_tells r (Err nineteen) (h ∙ slots_refused l s e),
  )

  -- the text bytes held, then the duplicates found
  pub summed : (s : List ℕ) (r : Result TwoSums Refusal) → Sums l s r
      → (sound l s ≡ true → r ≡ Ok (record { held = held l s; duplicates = duplicates_of s })) × (sound l s ≡ false → r ≡ Err nineteen)
  unfolding told_sums
  summed s r h = (
    λ e. sums_tells r (Ok (record { held = held l s; duplicates = duplicates_of s })) (h ∙ sums_given l s e),
    λ e. sums_tells r (Err nineteen) (h ∙ sums_refused l s e),
  )
