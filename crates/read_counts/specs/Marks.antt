-- The contents as one text of marks and value bytes, and what is read off it from left to right: a mark ends the open value
-- and begins the next, whose kind it names. Assumes nothing.
use Rattle.std.specs.Prelude.{ℕ, zero, suc, ◌+◌, Bool, true, false, List, [], ◌∷◌, ◌++◌, leb, eqb, if◌then◌else◌}
use Rattle.characters.specs.declared.Characters.{Characters}
use Rattle.operations.specs.ValueList.{Item, Entry}

-- The marks are the four separators, each spelled by the kind of what it begins; a value's byte that is one of these numbers, or the
-- release character, is released.
unfoldable pub marks : Characters
marks = record { component = 2; element = 1; mark = 46; release = 4; repetition = 3; terminator = 0 }

-- A mark writes out the open value and names the kind of the next one; a byte makes the open value longer.
module _ {S B : Type 0} (out : S → List B) (next grow : ℕ → S → S) where
  -- what is written out from here on; a release character may stand directly before the text
  unfoldable pub read_marks : S → Bool → List ℕ → List B
  read_marks current released [] = []
  read_marks current true (x ∷ xs) = read_marks (grow x current) false xs
  read_marks current false (x ∷ xs) =
      if leb x 3 then out current ++ read_marks (next x current) false xs
      else (if eqb x 4 then read_marks current true xs else read_marks (grow x current) false xs)

  -- what a run of marks of one kind writes out, and what is open after it
  unfoldable pub run_out : ℕ → ℕ → S → List B
  run_out kind zero current = []
  run_out kind (suc count) current = out current ++ run_out kind count (next kind current)

  unfoldable pub run_next : ℕ → ℕ → S → S
  run_next kind zero current = current
  run_next kind (suc count) current = run_next kind count (next kind current)

-- ---- read as values

abbrev pub item_out : Item → List Item
item_out l = l ∷ []

abbrev pub item_next : ℕ → Item → Item
item_next kind l = record { kind = kind; value = [] }

abbrev pub item_grow : ℕ → Item → Item
item_grow b l = record { kind = l.kind; value = l.value ++ b ∷ [] }

unfoldable pub items_from : Item → Bool → List ℕ → List Item
items_from l released text = read_marks item_out item_next item_grow l released text

-- ---- read as the table

abbrev pub numbers_out : Entry → List ℕ
numbers_out e = e.kind ∷ e.start ∷ e.size ∷ []

-- the next value starts where the one before it ends
abbrev pub entry_next : ℕ → Entry → Entry
entry_next kind e = record { kind = kind; start = e.start + e.size; size = 0 }

abbrev pub entry_grow : ℕ → Entry → Entry
entry_grow b e = record { kind = e.kind; start = e.start; size = e.size + 1 }

unfoldable pub numbers_from : Entry → Bool → List ℕ → List ℕ
numbers_from e released text = read_marks numbers_out entry_next entry_grow e released text
