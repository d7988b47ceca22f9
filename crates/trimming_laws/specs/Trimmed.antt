-- Paper 01, "Trimming (clauses 6 and 7)", as request 2026-10 has it, as a relation between what stood there and what is left.
-- Assumes nothing.
use Rattle.lists.specs.Lists.{is_empty}
use Rattle.nesting_laws.specs.Trimmed.{Each, TrimmedNest}
use Rattle.values.specs.Spelling.{Bytes, SegmentList}

-- Each segment of the list is trimmed: "empty components at the end of every repeat, down to one, then empty repeats at an element's end,
-- down to one, then elements as before". A repeat is of depth 1, an element of depth 2, a segment of depth 3.
unfoldable pub TrimmedList : SegmentList → SegmentList → Type 0
TrimmedList whole left = Each (TrimmedNest Bytes is_empty 3) whole left
