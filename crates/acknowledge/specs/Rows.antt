-- All parts in their order, and what the stages after 23 answer for them. Assumes nothing.
use Rattle.answers.specs.Answers.{Stored}
use Rattle.std.specs.Prelude.{ℕ, ◌≤◌, ◌<◌, List, length, drop, get_or}
use Rattle.characters.specs.declared.Characters.{Characters}
use Rattle.refusals.specs.Refusals.{answering}
use Rattle.refusals.specs.Limits.{most_bytes}
use Rattle.operations.specs.Judge.{stored_in}
use Rattle.operations.specs.ValueList.{Item}
use Rattle.write.specs.Writing.{Tried}
use Rattle.acknowledgements.specs.Lent.{Lent}
use Rattle.acknowledgements.specs.Acknowledgement.{acknowledgement_text, acknowledge_stages}
use Rattle.acknowledgement_parts.specs.declared.Part.{Part}
use Rattle.acknowledgement_parts.specs.declared.Part.TheVariants.{Date}
use Rattle.acknowledgement_parts.specs.declared.Received.{Received}
use Rattle.acknowledgement_parts.specs.Parts.{parts_of, row_items, Fine, Stands}

-- the part of a number
abbrev pub part_of : Received → ℕ → Part
part_of r i = get_or (parts_of r) i Date

-- the records of the parts from a number on, and of all
abbrev pub row_from : List ℕ → Lent → Received → ℕ → List Item
row_from s l r i = row_items s r.characters l (drop i (parts_of r))

abbrev pub row : List ℕ → Lent → Received → List Item
row s l r = row_items s r.characters l (parts_of r)

-- what is asked of the input and of each part
pub record Ready (s : List ℕ) (l : Lent) (r : Received) : Type 0 where
  pub short : length s ≤ most_bytes
  pub fine : (i : ℕ) → i < 20 → Fine s r.characters l (part_of r i)

-- each part stands under these characters, but for repeats of lent lists
abbrev pub AllStand : Characters → List ℕ → Received → Type 0
AllStand c s r = (i : ℕ) → i < 20 → Stands c s r.characters (part_of r i)

-- what is answered, and left in the output, where so many of the stages are passed, before a refusal leaves the output zero
abbrev pub TriesAfter : ℕ → List ℕ → Lent → (output : List ℕ) → Stored → (after : List ℕ) → Type 0
TriesAfter passed s l output r after =
    let text = acknowledgement_text s l in
    Tried (answering (drop passed (acknowledge_stages s l output))) (length text) (stored_in output text) output r after

-- what is asked where the row is put: it has at most 32,000 records
abbrev pub Few : List ℕ → Lent → Received → Type 0
Few s l r = Ready s l r × (length (row s l r) ≤ most_bytes)
