-- Two results that a contract allows are equal: it fixes the answer, every byte of the shelf at exit, and the part that is handed back.
-- Each field is a theorem; `proofs/Tight.antt` proves the record. Assumes nothing.
use Rattle.refusals.specs.declared.Refusal.{Refusal}
use Rattle.refusals.specs.Refusals.{Outcome}
use Rattle.answers.specs.Answers.{Stored}
use Rattle.std.specs.Prelude.{ℕ, ◌≡◌, List, Result}
use Rattle.std.specs.Borrow.{Bor}
use Rattle.contracts.specs.Tight.{SameSlice}
use Rattle.shelves.specs.declared.Shelved.{Shelved}
use Rattle.shelves.specs.declared.Slots.{Slots}
use Rattle.shelves.specs.declared.TwoSums.{TwoSums}
use Rattle.shelves.specs.Layout.{Layout}
use Rattle.shelf_contracts.specs.Promises.{Starts, Puts, Gets, Measures, Removes, Counts, Sums}

pub record Tight (l : Layout) : Type 0 where
  pub start : (buffer : List ℕ) (r q : Outcome) (x y : List ℕ) → Starts l buffer r x → Starts l buffer q y → (r ≡ q) × (x ≡ y)
  pub put : (s input : List ℕ) (r q : Result Shelved Refusal) (x y : List ℕ) → Puts l s input r x → Puts l s input q y → (r ≡ q) × (x ≡ y)
  pub get : (s : Bor (List ℕ)) (slot : ℕ) (r q : Bor (List ℕ)) → Gets l s slot r → Gets l s slot q → SameSlice r q
  pub measure : (s : List ℕ) (slot : ℕ) (r q : Stored) → Measures l s slot r → Measures l s slot q → r ≡ q
  pub remove : (s : List ℕ) (slot : ℕ) (r q : Stored) (x y : List ℕ) → Removes l s slot r x → Removes l s slot q y → (r ≡ q) × (x ≡ y)
  pub count : (s : List ℕ) (r q : Result Slots Refusal) → Counts l s r → Counts l s q → r ≡ q
  pub sums : (s : List ℕ) (r q : Result TwoSums Refusal) → Sums l s r → Sums l s q → r ≡ q
