-- Request 2026-12: the list that a text in columns gives, and when there is one. The lines are read loosely: a wrong heading, wrong numbers and
-- columns too many are not seen, and a column that is missing is read as an empty one. Then the list that was read must have this very text.
-- Assumes nothing.
use Rattle.std.specs.Prelude.{ℕ, zero, suc, Bool, ◌&&◌, ◌||◌, List, [], ◌∷◌, map, eqb, if◌then◌else◌}
use Rattle.lists.specs.Lists.{text, same, beyond, cut}
use Rattle.nesting.specs.Nesting.{every}
use Rattle.values.specs.Spelling.{Bytes, SegmentList}
use Rattle.operations.specs.ValueList.{Item, segments_listed, trim_list}
use Rattle.columns.specs.Lines.{tab, line_feed, columns_of, fits_line}

-- ---- a line

-- a line ends with a line feed, a column with a tab or with the line
unfoldable pub ends_line : ℕ → Bool
ends_line b = eqb b line_feed

unfoldable pub ends_column : ℕ → Bool
ends_column b = eqb b tab || ends_line b

-- what stands before the first that passes the test
unfoldable pub before : (ℕ → Bool) → Bytes → Bytes
before t [] = []
before t (b ∷ bs) = if t b then [] else b ∷ before t bs

-- the column with this number, from 0
unfoldable pub column : ℕ → Bytes → Bytes
column zero bytes = before ends_column bytes
column (suc n) bytes = column n (beyond ends_column bytes)

unfoldable pub is_zero : Bytes → Bool
is_zero number = same number (text "0")

-- What begins with a value: the next component where its number is not 0, else the next repeat where that is not, else the next element
-- where that is not, else a segment.
unfoldable pub kind_read : Bytes → ℕ
kind_read bytes =
    if is_zero (column 3 bytes)
    then (if is_zero (column 2 bytes) then (if is_zero (column 1 bytes) then 0 else 1) else 3)
    else 2

unfoldable pub item_read : Bytes → Item
item_read bytes = record { kind = kind_read bytes; value = column 4 bytes }

-- ---- a text

-- a value for each line
unfoldable pub items_in : Bytes → List Item
items_in lines = map item_read (cut ends_line lines)

-- the list that the lines after the heading give, trimmed; the heading is all up to the first line feed, whatever it says
unfoldable pub list_in : Bytes → SegmentList
list_in columns = trim_list (segments_listed (items_in (beyond ends_line columns)))

-- one of "the texts that export gives for some trimmed value list whose values hold no tab, carriage return or line feed"
unfoldable pub is_columns : Bytes → Bool
is_columns columns = same (columns_of (list_in columns)) columns && every fits_line 4 (list_in columns)
