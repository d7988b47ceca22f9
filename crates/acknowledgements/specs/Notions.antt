-- The request's notions for the statements about this crate's definitions, with its numbers written out: none of them goes through the
-- definition that it is held against. `P → ⊥` says that P does not hold. Assumes nothing.
use Rattle.std.specs.Prelude.{ℕ, suc, ◌≤◌, ◌≡◌, ◌⊎◌, List, [], ◌∷◌}
use Rattle.std.proofs.Math.Option.{some}
use Rattle.lists.specs.Lists.{at}
use Rattle.values.specs.Spelling.{Bytes}
use Rattle.control_elements.specs.Notions.{Reference}
use Rattle.stages.specs.Contents.{contents}
use Rattle.operations.specs.Judge.{judge}
use Rattle.operations.specs.Notions.{Record, BadTable, BadRecord}
use Rattle.acknowledgements.specs.Lent.{LentList, Lent}

-- 23: "for any other refusal of the received interchange, or if UNB's reference isn't as document 01 asks, or its sender or recipient is one
-- empty value"
pub data CannotBeAcknowledged (s : List ℕ) : Type 0 where
  other : (n p : ℕ) → judge s ≡ record { number = n; values = p ∷ [] } → ((n ≡ 10) ⊎ (n ≡ 11) ⊎ (n ≡ 12) → ⊥) → CannotBeAcknowledged s
  reference : ((unb : List (List (List Bytes))) → at (contents s) 0 ≡ some unb → Reference unb 5 → ⊥) → CannotBeAcknowledged s
  sender : (unb : List (List (List Bytes))) → at (contents s) 0 ≡ some unb → at unb 2 ≡ some (([] ∷ []) ∷ []) → CannotBeAcknowledged s
  recipient : (unb : List (List (List Bytes))) → at (contents s) 0 ≡ some unb → at unb 3 ≡ some (([] ∷ []) ∷ []) → CannotBeAcknowledged s

-- 15: "if a lent list is empty, breaks 15 or has kind 0 or 1 after its first record"
pub data BadLent (l : LentList) : Type 0 where
  empty : l.table ≡ [] → BadLent l
  bad_table_lem : BadTable l.table → BadLent l
  bad_record : (n : ℕ) → BadRecord l.bytes l.table n → BadLent l
  goes_on : (n kind start size : ℕ) → Record l.table (suc n) kind start size → kind ≤ 1 → BadLent l

abbrev pub AnyBadLent : Lent → Type 0
AnyBadLent l = BadLent l.date ⊎ BadLent l.reference ⊎ BadLent l.message
