-- What the definitions give: numbers, a list of two segments in columns, and texts that are one slip away from it. In the lines a blank stands
-- for a tab. Assumes nothing.
use Rattle.std.specs.Prelude.{if◌then◌else◌}
use Prim.Native.String.{String}
use mathlib.Core.Path.{◌≡◌, refl}
use mathlib.Core.Bool.{true, false}
use mathlib.Core.List.{List, [], ◌∷◌, ◌++◌, map}
use lib.Dec.{eqb}
use Rattle.lists.specs.Lists.{text, same, member, is_empty, all, onto, cut, beyond, unless_idle, drop_end, trim_end, gather}
use Rattle.values.specs.Spelling.{Bytes, SegmentList}
use Rattle.values.specs.Trimming.{trim_repeat, trim_element, trim_segment, is_idle}
use Rattle.operations.specs.ValueList.{rank_of, closed, closes, segments_listed, trim_list}
use Rattle.columns.specs.Lines.{digits_up_to, in_decimal, line, heading, gather_from, value_line, repeat_lines, element_lines, segment_lines, columns_of, fits_line}
use Rattle.columns.specs.Reading.{ends_line, ends_column, before, column, is_zero, kind_read, item_read, items_in, list_in, is_columns}

pub decimal_is : (in_decimal 0 ≡ text "0") × (in_decimal 9 ≡ text "9") × (in_decimal 10 ≡ text "10") × (in_decimal 2026 ≡ text "2026") × (in_decimal 100000 ≡ text "100000")
unfolding in_decimal digits_up_to
decimal_is = (refl, refl, refl, refl, refl)

-- it holds no tab, carriage return or line feed; any other byte it may hold
pub fits_are : (fits_line (text "A B") ≡ true) × (fits_line (0 ∷ 11 ∷ 127 ∷ 200 ∷ []) ≡ true) × (fits_line (65 ∷ 9 ∷ []) ≡ false) × (fits_line (13 ∷ []) ≡ false) × (fits_line (10 ∷ 65 ∷ []) ≡ false)
unfolding fits_line all member
fits_are = (refl, refl, refl, refl, refl)

-- ---- a list, and its text

abbrev tabbed : String → Bytes
tabbed row = map (λ b. if eqb b 32 then 9 else b) (text row)

abbrev lined : String → Bytes
lined row = tabbed row ++ 10 ∷ []

abbrev columned : List String → Bytes
columned rows = lined "segment element repeat component value" ++ gather lined rows

-- `A+B:C*D'E'`
abbrev small : SegmentList
small = (((text "A" ∷ []) ∷ []) ∷ ((text "B" ∷ text "C" ∷ []) ∷ (text "D" ∷ []) ∷ []) ∷ []) ∷ (((text "E" ∷ []) ∷ []) ∷ []) ∷ []

abbrev small_rows : List String
small_rows = "0 0 0 0 A" ∷ "0 1 0 0 B" ∷ "0 1 0 1 C" ∷ "0 1 1 0 D" ∷ "1 0 0 0 E" ∷ []

pub columns_are : columns_of small ≡ columned small_rows
unfolding columns_of heading line gather_from segment_lines element_lines repeat_lines value_line in_decimal digits_up_to gather
columns_are = refl

-- a number above 9 in each column
pub line_is : value_line 10 211 3012 40013 (text "A") ≡ lined "10 211 3012 40013 A"
unfolding value_line line in_decimal digits_up_to
line_is = refl

-- ---- taken and not

-- the list that the text gives is the list
pub list_is : list_in (columned small_rows) ≡ small
unfolding list_in items_in item_read kind_read is_zero column before ends_column ends_line beyond cut onto same gather segments_listed closed closes rank_of trim_list trim_segment trim_element trim_repeat trim_end drop_end unless_idle is_idle is_empty
list_is = refl

pub taken_are : (is_columns (columned small_rows) ≡ true)
    -- a leading zero, of the first number and of another; a component, an element and a segment that skip a number
    × (is_columns (columned ("00 0 0 0 A" ∷ [])) ≡ false)
    × (is_columns (columned ("0 0 0 0 A" ∷ "0 01 0 0 B" ∷ [])) ≡ false)
    × (is_columns (columned ("0 0 0 0 A" ∷ "0 1 0 0 B" ∷ "0 1 0 2 C" ∷ [])) ≡ false)
    × (is_columns (columned ("0 0 0 0 A" ∷ "0 2 0 0 B" ∷ [])) ≡ false)
    × (is_columns (columned ("0 0 0 0 A" ∷ "2 0 0 0 B" ∷ [])) ≡ false)
    -- an empty end; an empty value that another follows
    × (is_columns (columned ("0 0 0 0 A" ∷ "0 1 0 0 " ∷ [])) ≡ false)
    × (is_columns (columned ("0 0 0 0 A" ∷ "0 1 0 0 " ∷ "0 1 0 1 B" ∷ [])) ≡ true)
    -- a carriage return; no line feed at the end
    × (is_columns (columned [] ++ tabbed "0 0 0 0 A" ++ 13 ∷ 10 ∷ []) ≡ false)
    × (is_columns (columned [] ++ tabbed "0 0 0 0 A") ≡ false)
    -- the heading alone, and nothing at all
    × (is_columns (columned []) ≡ true)
    × (is_columns [] ≡ false)
unfolding is_columns list_in items_in item_read kind_read is_zero column before ends_column ends_line beyond cut onto same gather segments_listed closed closes rank_of trim_list trim_segment trim_element trim_repeat trim_end drop_end unless_idle is_idle is_empty all member fits_line columns_of heading line gather_from segment_lines element_lines repeat_lines value_line in_decimal digits_up_to
taken_are = (refl, refl, refl, refl, refl, refl, refl, refl, refl, refl, refl, refl)
