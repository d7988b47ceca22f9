-- Change request 2026-03, "Section markers": "the standard gives it a section, D for detail or S for summary"; "UNS's first element is a
-- single component `D` or `S`, each at most once in a message, D before S if both stand." What passed is a list of segments, the nearest
-- first. Request 2026-10: the element has one repeat. Assumes nothing.
use Rattle.std.specs.Prelude.{ℕ, Bool, false, not, ◌&&◌, ◌||◌, List, eqb, if◌then◌else◌}
use Rattle.lists.specs.Lists.{text, same, any, those, through, at, maybe}
use Rattle.values.specs.Tokens.{Segment}
use Rattle.segments.specs.declared.Kind.TheVariants.{Unh, Uns}
use Rattle.segments.specs.declared.Section.{Section}
use Rattle.segments.specs.declared.Section.TheVariants.{None, Detail, Summary}
use Rattle.segments.specs.Kinds.{is}
use Rattle.segments.specs.Tags.{kind_of}
use Rattle.control_elements.specs.Control.{control_element}

-- ---- the section that a UNS names

-- "D for detail or S for summary"
unfoldable pub section_named : List ℕ → Section
section_named name = if same name (text "D") then Detail else (if same name (text "S") then Summary else None)

-- "UNS's first element is a single component `D` or `S`", as it stands in the trimmed contents; none where it is anything else
unfoldable pub section_of : Segment → Section
section_of segment = maybe None section_named (control_element segment 1)

-- the turn of a section in a message: before all sections, the detail section, the summary section
abbrev pub turn : Section → ℕ
turn None = 0
turn Detail = 1
turn Summary = 2

unfoldable pub is_section : Section → Section → Bool
is_section section other = eqb (turn other) (turn section)

-- ---- the sections of a message

-- "in a message": the UNS segments since the nearest UNH, the nearest first
unfoldable pub markers_in : List Segment → List Segment
markers_in past = those (λ g. is Uns (kind_of g)) (through (λ g. is Unh (kind_of g)) past)

-- one of them names the section
unfoldable pub has_section : Section → List Segment → Bool
has_section section past = any (λ g. is_section section (section_of g)) (markers_in past)

-- "each at most once in a message, D before S if both stand"
unfoldable pub may_begin : List Segment → Section → Bool
may_begin past None = false
may_begin past Detail = not (has_section Detail past) && not (has_section Summary past)
may_begin past Summary = not (has_section Summary past)

-- what a UNS has to keep; no other segment is asked
unfoldable pub section_rule : List Segment → Segment → Bool
section_rule past segment = not (is Uns (kind_of segment)) || may_begin past (section_of segment)

-- the section that began last in the message
unfoldable pub last_section : List Segment → Section
last_section past = maybe None section_of (at (markers_in past) 0)
