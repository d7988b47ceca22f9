-- Request 2026-12: a list of values in columns, "one line for each value, after a heading line". Assumes nothing.
use Rattle.std.specs.Prelude.{ℕ, zero, suc, ◌+◌, ◌/◌, ◌%◌, Bool, not, List, [], ◌∷◌, ◌++◌, ltb, if◌then◌else◌}
use Rattle.lists.specs.Lists.{text, member, all}
use Rattle.values.specs.Spelling.{Bytes, SegmentList}

abbrev pub tab : ℕ
tab = 9

abbrev pub line_feed : ℕ
line_feed = 10

abbrev pub carriage_return : ℕ
carriage_return = 13

-- ---- numbers

-- the digits of n, of which there are at most `most`: those of n / 10 where n is 10 or more, then its last
unfoldable pub digits_up_to : ℕ → ℕ → Bytes
digits_up_to zero n = []
digits_up_to (suc most) n = (if ltb n 10 then [] else digits_up_to most (n / 10)) ++ (48 + n % 10) ∷ []

-- "in decimal without leading zeros"; n has at most n + 1 digits
unfoldable pub in_decimal : ℕ → Bytes
in_decimal n = digits_up_to (suc n) n

-- ---- lines

-- five columns, "tab-separated, .. a line feed after each"
unfoldable pub line : Bytes → Bytes → Bytes → Bytes → Bytes → Bytes
line segment element repeat component value =
    segment ++ tab ∷ (element ++ tab ∷ (repeat ++ tab ∷ (component ++ tab ∷ (value ++ line_feed ∷ []))))

-- "a heading line of these names: segment, element, repeat, component, value"
unfoldable pub heading : Bytes
heading = line (text "segment") (text "element") (text "repeat") (text "component") (text "value")

-- what f gives for each and its number, one after another; the first one's number is given
unfoldable pub gather_from : {A : Type 0} → (ℕ → A → Bytes) → ℕ → List A → Bytes
gather_from f n [] = []
gather_from f n (x ∷ xs) = f n x ++ gather_from f (suc n) xs

-- the line of a value, by its numbers
unfoldable pub value_line : ℕ → ℕ → ℕ → ℕ → Bytes → Bytes
value_line segment element repeat component value =
    line (in_decimal segment) (in_decimal element) (in_decimal repeat) (in_decimal component) value

-- the lines of a repeat, an element and a segment, "numbers from 0"
unfoldable pub repeat_lines : ℕ → ℕ → ℕ → List Bytes → Bytes
repeat_lines segment element repeat values = gather_from (value_line segment element repeat) 0 values

unfoldable pub element_lines : ℕ → ℕ → List (List Bytes) → Bytes
element_lines segment element repeats = gather_from (repeat_lines segment element) 0 repeats

unfoldable pub segment_lines : ℕ → List (List (List Bytes)) → Bytes
segment_lines segment elements = gather_from (element_lines segment) 0 elements

-- the text of a list
unfoldable pub columns_of : SegmentList → Bytes
columns_of list = heading ++ gather_from segment_lines 0 list

-- ---- values that can stand in a line

-- it holds "no tab, carriage return or line feed"
unfoldable pub fits_line : Bytes → Bool
fits_line value = all (λ b. not (member b (tab ∷ carriage_return ∷ line_feed ∷ []))) value
