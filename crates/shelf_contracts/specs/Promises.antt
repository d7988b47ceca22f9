-- Requests 2026-04 and 2026-06: what each operation on a shelf promises of its answer and of the shelf's bytes at exit, for any input, refused or not.
-- Its contract is this, of what was there at entry and what is there at exit. The layout is a parameter. Assumes nothing.
use Rattle.refusals.specs.declared.Refusal.{Refusal}
use Rattle.refusals.specs.Refusals.{Outcome}
use Rattle.std.specs.Prelude.{ℕ, ◌≡◌, List, Result}
use Rattle.std.specs.Borrow.{Bor}
use Rattle.answers.specs.Answers.{told_stored, Stored}
use Rattle.contracts.specs.Promises.{IsPart}
use Rattle.shelves.specs.declared.Shelved.{Shelved}
use Rattle.shelves.specs.declared.Slots.{Slots}
use Rattle.shelves.specs.declared.TwoSums.{TwoSums}
use Rattle.shelves.specs.Layout.{Layout}
use Rattle.shelves.specs.Answers.{told_shelved, told_slots, told_sums, told_outcome}
use Rattle.shelves.specs.Operations.{start, start_shelf, slots_of, sums_of, put, put_shelf, got_offset, got_length, length_answer, remove, remove_shelf}

module _ (l : Layout) where
  abbrev pub Starts : (buffer : List ℕ) → Outcome → (after : List ℕ) → Type 0
  Starts buffer r after = (told_outcome r ≡ start l buffer) × (after ≡ start_shelf l buffer)

  abbrev pub Puts : (s input : List ℕ) → Result Shelved Refusal → (after : List ℕ) → Type 0
  Puts s input r after = (told_shelved r ≡ put l s input) × (after ≡ put_shelf l s input)

  -- Get hands back a part of the shelf, or zero bytes at its start
  abbrev pub Gets : (s : Bor (List ℕ)) (slot : ℕ) (r : Bor (List ℕ)) → Type 0
  Gets s slot r = IsPart s (got_offset l s.now slot) (got_length l s.now slot) r

  -- Get's companion says how long that part is, or what refused it
  abbrev pub Measures : (s : List ℕ) (slot : ℕ) → Stored → Type 0
  Measures s slot r = told_stored r ≡ length_answer l s slot

  abbrev pub Removes : (s : List ℕ) (slot : ℕ) → Stored → (after : List ℕ) → Type 0
  Removes s slot r after = (told_stored r ≡ remove l s slot) × (after ≡ remove_shelf l s slot)

  -- the two numbers that are read off the map
  abbrev pub Counts : (s : List ℕ) → Result Slots Refusal → Type 0
  Counts s r = told_slots r ≡ slots_of l s

  -- the text bytes held and the duplicates found
  abbrev pub Sums : (s : List ℕ) → Result TwoSums Refusal → Type 0
  Sums s r = told_sums r ≡ sums_of l s
