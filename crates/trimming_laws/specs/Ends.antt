-- Lists of segments that differ by empty ends alone. Assumes nothing.
use Rattle.std.specs.Prelude.{[]}
use Rattle.nesting_laws.specs.Ends.{OneChanged, Linked, MoreEnd}
use Rattle.values.specs.Spelling.{SegmentList}

-- The one becomes the other when empty ends are added and taken away: an empty value at the end of a repeat, a repeat of a single empty
-- value at the end of an element, or an element of a single empty value at a segment's end.
abbrev pub DifferByEnds : SegmentList → SegmentList → Type 0
DifferByEnds list other = Linked (OneChanged (MoreEnd [] 3)) list other
