-- Request 2026-12: the lines of a list one after the other, each by the position of its value. A value's position follows from that of the
-- value before it and from what it begins. Assumes nothing.
use Rattle.std.specs.Prelude.{ℕ, ◌+◌, List, [], ◌∷◌, ◌++◌, leb, eqb, if◌then◌else◌}
use Rattle.values.specs.Spelling.{Bytes}
use Rattle.operations.specs.ValueList.{Item}
use Rattle.trimming_laws.specs.Kinds.{first_kind}
use Rattle.columns.specs.Lines.{value_line}
use Rattle.column_laws.specs.declared.Position.{Position}

abbrev pub at : ℕ → ℕ → ℕ → ℕ → Position
at segment element repeat component = record { segment = segment; element = element; repeat = repeat; component = component }

-- the position of a value of a kind, after the value at a position
unfoldable pub next_at : Position → ℕ → Position
next_at p kind =
    if leb kind 0 then at (p.segment + 1) 0 0 0
    else (if leb kind 1 then at p.segment (p.element + 1) 0 0
    else (if eqb kind 3 then at p.segment p.element (p.repeat + 1) 0
    else at p.segment p.element p.repeat (p.component + 1)))

-- the line of a value at a position
abbrev pub line_at : Position → Bytes → Bytes
line_at p value = value_line p.segment p.element p.repeat p.component value

-- the lines of values, of which the first stands at the position
unfoldable pub lines_at : Position → List Item → Bytes
lines_at p [] = []
lines_at p (l ∷ ls) = line_at p l.value ++ lines_at (next_at p (first_kind ls)) ls
