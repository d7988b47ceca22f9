-- Request 2026-12: a text in columns from line to line: the line at a place, and the values whose lines follow. Assumes nothing.
use Rattle.std.specs.Prelude.{ℕ, ◌+◌, ◌-◌, ◌≤◌, ◌<◌, ◌≡◌, true, List, ◌∷◌, ◌++◌, Option, Some, None, eqb, length, take, drop, if◌then◌else◌}
use Rattle.lists.specs.Lists.{all}
use Rattle.values.specs.Spelling.{Bytes}
use Rattle.operations.specs.ValueList.{Item}
use Rattle.trimming_laws.specs.Kinds.{first_kind, kinds_up_to3}
use Rattle.columns.specs.Lines.{fits_line}
use Rattle.column_laws.specs.declared.Position.{Position}
use Rattle.column_laws.specs.Positions.{at, next_at, line_at, lines_at}
use Rattle.column_walk.specs.declared.Line.{Line}

-- ---- places and positions

-- the first line begins behind the heading
abbrev pub first_place : ℕ
first_place = 39

-- the position of a value of a kind, by where its line begins and by the position of the value before it
unfoldable pub position_at : ℕ → Position → ℕ → Position
position_at place p kind = if eqb place first_place then at 0 0 0 0 else next_at p kind

-- a value of this kind may stand there: the first one begins a segment
pub record Leads (place kind : ℕ) : Type 0 where
  pub low : kind ≤ 3
  pub first : place ≡ first_place → kind ≡ 0

-- no number of a position is above the place
pub record Within (p : Position) (place : ℕ) : Type 0 where
  pub segment : p.segment ≤ place
  pub element : p.element ≤ place
  pub repeat : p.repeat ≤ place
  pub component : p.component ≤ place

-- ---- a line

-- its value
abbrev pub value_of : List ℕ → Line → Bytes
value_of s l = take (l.end - l.start) (drop l.start s)

abbrev pub item_at : List ℕ → Line → Item
item_at s l = record { kind = l.kind; value = value_of s l }

-- the line of a value at a position stands at a place
pub record Stands (s : List ℕ) (place : ℕ) (p : Position) (l : Line) : Type 0 where
  pub position : l.position ≡ p
  pub behind : place ≤ l.start
  pub order : l.start ≤ l.end
  pub inside : l.end < length s
  pub fits : fits_line (value_of s l) ≡ true
  pub text : drop place s ≡ line_at p (value_of s l) ++ drop (l.end + 1) s

-- no line with the numbers of this position stands there
abbrev pub Missing : List ℕ → ℕ → Position → Type 0
Missing s place p = (value rest : Bytes) → fits_line value ≡ true → drop place s ≡ line_at p value ++ rest → ⊥

-- what a search for a line with the numbers of a position answers, for a value of a kind
pub record Sought (s : List ℕ) (place : ℕ) (p : Position) (kind : ℕ) (found : Option Line) : Type 0 where
  pub none : found ≡ None → Missing s place p
  pub some : (l : Line) → found ≡ Some l → (l.kind ≡ kind) × Stands s place p l

-- the line of a value that may stand there does, after the value at a position
abbrev pub Leading : List ℕ → ℕ → Position → Line → Type 0
Leading s place p l = Leads place l.kind × Stands s place (position_at place p l.kind) l

-- what a search for the line at a place answers, after the value at a position
pub record Found (s : List ℕ) (place : ℕ) (p : Position) (found : Option Line) : Type 0 where
  pub none : found ≡ None → (kind : ℕ) → Leads place kind → Missing s place (position_at place p kind)
  pub some : (l : Line) → found ≡ Some l → Leading s place p l

-- ---- what follows

-- the values whose lines are all that the text has from a place on
pub record Rest (s : List ℕ) (place : ℕ) (p : Position) (items : List Item) : Type 0 where
  pub behind : first_place ≤ place
  pub text : drop place s ≡ lines_at (position_at place p (first_kind items)) items
  pub first : place ≡ first_place → first_kind items ≡ 0
  pub kinds : kinds_up_to3 items ≡ true
  pub fits : all (λ l. fits_line l.value) items ≡ true

-- the line that was found is that of the first of them
pub record Next (s : List ℕ) (place : ℕ) (p : Position) (l : Line) (items : List Item) : Type 0 where
  pub known : l.kind ≤ 3
  pub stands : Stands s place (position_at place p l.kind) l
  pub more : List Item
  pub is : items ≡ item_at s l ∷ more
  pub rest : Rest s (l.end + 1) l.position more
