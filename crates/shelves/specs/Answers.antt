-- The number and the values of each case of what the shelf's operations answer: number 0 where nothing is refused. Assumes nothing.
use Rattle.refusals.specs.declared.Refusal.{Refusal}
use Rattle.refusals.specs.Refusals.{Outcome}
use Rattle.std.specs.Prelude.{ℕ, [], ◌∷◌, Ok, Err, Result}
use Rattle.answers.specs.Answers.{Answer, given, refused}
use Rattle.shelves.specs.declared.Shelved.{Shelved}
use Rattle.shelves.specs.declared.Shelved.TheVariants as shelved
use Rattle.shelves.specs.declared.Slots.{Slots}
use Rattle.shelves.specs.declared.TwoSums.{TwoSums}

-- the slot, and 1 for a text that is new, 0 for the copy of one that is there
unfoldable pub new_at : ℕ → Answer
new_at slot = given (slot ∷ 1 ∷ [])

unfoldable pub copy_at : ℕ → Answer
copy_at slot = given (slot ∷ 0 ∷ [])

unfoldable pub told_shelved : Result Shelved Refusal → Answer
told_shelved (Ok (shelved.New slot)) = new_at slot
told_shelved (Ok (shelved.Copy slot)) = copy_at slot
told_shelved (Err r) = refused r

unfoldable pub told_slots : Result Slots Refusal → Answer
told_slots (Ok v) = given (v.occupied ∷ v.lowest_free ∷ [])
told_slots (Err r) = refused r

unfoldable pub told_sums : Result TwoSums Refusal → Answer
told_sums (Ok v) = given (v.held ∷ v.duplicates ∷ [])
told_sums (Err r) = refused r

-- what Start says
unfoldable pub told_outcome : Outcome → Answer
told_outcome (Ok _) = given []
told_outcome (Err r) = refused r
