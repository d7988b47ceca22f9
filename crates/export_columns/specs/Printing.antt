-- Request 2026-12: the lines of a body's contents, token by token. The numbers of a value are printed with the first thing after them: a byte of
-- the value, or its end. Separators are held back until something follows them. Assumes nothing.
use Rattle.std.specs.Prelude.{ℕ, zero, suc, ◌+◌, ◌*◌, ◌≤◌, true, false, List, [], ◌∷◌, ◌++◌, leb, length, if◌then◌else◌}
use Rattle.values.specs.Tokens.{Token, byte, separator, fault}
use Rattle.values.specs.Spelling.{Bytes}
use Rattle.emission_laws.specs.declared.Held.{Held}
use Rattle.emission_laws.specs.Emission.{nothing, waiting, separated}
use Rattle.columns.specs.Lines.{line_feed, heading}
use Rattle.column_laws.specs.Positions.{at, next_at}
use Rattle.column_lines.specs.Numbers.{numbers_at}
use Rattle.export_columns.specs.declared.Line.{Line}

-- ---- the open line

-- the first value is open, and nothing but the heading is printed
abbrev pub first : Line
first = record { end = 39; position = at 0 0 0 0; begun = false; held = nothing }

-- the same line with this held back after it
abbrev pub holding : Held → Line → Line
holding h l = record { end = l.end; position = l.position; begun = l.begun; held = h }

-- the numbers that are still to be printed
unfoldable pub numbers_due : Line → Bytes
numbers_due l = if l.begun then [] else numbers_at l.position

-- after them
abbrev pub begun_line : Line → Line
begun_line l = record { end = l.end + length (numbers_due l); position = l.position; begun = true; held = l.held }

-- what ends the line, and the next one, whose value is of a kind
abbrev pub line_end : Line → Bytes
line_end l = numbers_due l ++ line_feed ∷ []

abbrev pub next_line : ℕ → Line → Line
next_line kind l = record { end = l.end + length (line_end l); position = next_at l.position kind; begun = false; held = l.held }

-- ---- separators that are let out

-- so many of one kind: each ends a line
unfoldable pub marks_text : ℕ → ℕ → Line → Bytes
marks_text kind zero l = []
marks_text kind (suc count) l = line_end l ++ marks_text kind count (next_line kind l)

unfoldable pub after_marks : ℕ → ℕ → Line → Line
after_marks kind zero l = l
after_marks kind (suc count) l = after_marks kind count (next_line kind l)

-- all that is held back: the separators of elements, those of repeats, and those of components
abbrev pub past_elements : Line → Line
past_elements l = after_marks 1 l.held.elements l

abbrev pub past_repeats : Line → Line
past_repeats l = after_marks 3 l.held.repeats (past_elements l)

unfoldable pub past_held : Line → Line
past_held l = after_marks 2 l.held.components (past_repeats l)

unfoldable pub held_text : Line → Bytes
held_text l =
    marks_text 1 l.held.elements l ++ (marks_text 3 l.held.repeats (past_elements l) ++ marks_text 2 l.held.components (past_repeats l))

-- ---- one step

-- one byte more of the open value, after which nothing is held back
abbrev pub grown : Line → Line
grown l = record { end = l.end + length (numbers_due l) + 1; position = l.position; begun = true; held = nothing }

-- so many bytes more of a value of which some are printed
abbrev pub longer : ℕ → Line → Line
longer count l = record { end = l.end + count; position = l.position; begun = l.begun; held = l.held }

-- a byte of a value lets out what is held back
abbrev pub after_byte : Line → Line
after_byte l = grown (past_held l)

unfoldable pub byte_text : ℕ → Line → Bytes
byte_text b l = held_text l ++ (numbers_due (past_held l) ++ b ∷ [])

-- a terminator ends the line, and the next value begins a segment; another separator is held back
unfoldable pub after_separator : ℕ → Line → Line
after_separator rank l = holding (separated l.held rank) (if leb rank 0 then next_line 0 l else l)

unfoldable pub separator_text : ℕ → Line → Bytes
separator_text rank l = if leb rank 0 then line_end l else []

-- ---- the whole

-- what is printed from here on
unfoldable pub lines_rest : Line → List Token → Bytes
lines_rest l [] = []
lines_rest l (byte b from place ∷ ts) = byte_text b l ++ lines_rest (after_byte l) ts
lines_rest l (separator rank place ∷ ts) = separator_text rank l ++ lines_rest (after_separator rank l) ts
lines_rest l (fault place ∷ ts) = lines_rest l ts

-- the text of a body
unfoldable pub lines_of : List Token → Bytes
lines_of ts = heading ++ lines_rest first ts

-- ---- that counting goes on

-- Each number of the position is at most the bytes printed; and these stay below 2^63 also after `more` further lines or bytes, each of which
-- prints at most 85 (four numbers of twenty digits, four tabs, a line feed).
pub record Room (l : Line) (more : ℕ) : Type 0 where
  pub segment : l.position.segment ≤ l.end
  pub element : l.position.element ≤ l.end
  pub repeat : l.position.repeat ≤ l.end
  pub component : l.position.component ≤ l.end
  pub most : l.end + length (numbers_due l) + 85 * more ≤ 9223372036854775807

-- all that is held back, and so much more
abbrev pub Roomy : Line → ℕ → Type 0
Roomy l more = Room l (waiting l.held + more)
