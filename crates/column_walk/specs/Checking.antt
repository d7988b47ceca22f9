-- Request 2026-12: which texts are taken, told from line to line. Assumes nothing.
use Rattle.std.specs.Prelude.{ℕ, ◌+◌, ◌≤◌, ◌≡◌, true, List, eqb, length, if◌then◌else◌}
use Rattle.operations.specs.ValueList.{Item, rank_of, list_of}
use Rattle.trimming_laws.specs.Kinds.{first_kind}
use Rattle.columns.specs.Reading.{list_in}
use Rattle.column_laws.specs.declared.Position.{Position}
use Rattle.column_laws.specs.Positions.{at}
use Rattle.column_laws.specs.Idle.{no_idle_ends}
use Rattle.column_walk.specs.declared.Line.{Line}
use Rattle.column_walk.specs.Walk.{first_place, Rest}

-- the values of the list that a text gives
abbrev pub items_read : List ℕ → List Item
items_read s = list_of (list_in s)

-- The least rank of the separator that may follow a line: after an empty value no lower one than in front of it, since trimming takes an
-- empty end.
abbrev pub least_after : Line → ℕ
least_after l = if eqb l.start l.end then rank_of l.kind else 0

-- what follows is of that rank at least, and has no empty end
pub record Kept (least : ℕ) (items : List Item) : Type 0 where
  pub low : least ≤ rank_of (first_kind items)
  pub none : no_idle_ends items ≡ true

-- the lines behind the heading are those of these values, and none of them is an empty end
pub record Taken (s : List ℕ) (items : List Item) : Type 0 where
  pub rest : Rest s first_place (at 0 0 0 0) items
  pub none : no_idle_ends items ≡ true

-- Some lines are passed: what the text has is what it has from here on.
pub record Passing (s : List ℕ) (place : ℕ) (p : Position) (count least : ℕ) : Type 0 where
  pub forth : (items : List Item) → Taken s items → (left : List Item) × (Rest s place p left) × (Kept least left)
  pub back : (left : List Item) → Rest s place p left → Kept least left → (items : List Item) × (Taken s items) × (length items ≡ count + length left)
