-- Paper 01, "Operations": a value list, "a byte buffer of values" and "a table of three 32-bit numbers a value"; request 2026-10: kind 3.
-- Assumes nothing.
use Rattle.std.specs.Prelude.{ℕ, ◌+◌, Bool, List, [], ◌∷◌, ◌++◌, map, length, take, drop, eqb, leb, if◌then◌else◌}
use Rattle.lists.specs.Lists.{cut, gather, is_empty}
use Rattle.values.specs.Trimming.{trim_segment}
use Rattle.values.specs.Spelling.{Bytes, SegmentList}

-- "kind (0 new segment, 1 new element, 2 next component)"; request 2026-10: "kind 3 (a next repeat's first value)"
pub record Item : Type 0 where
  pub kind : ℕ
  pub value : Bytes

-- A kind says what a value begins, a separator's rank what it ends. The rank of the separator that stands before a value of this kind:
unfoldable pub rank_of : ℕ → ℕ
rank_of kind = if leb kind 0 then 0 else (if leb kind 1 then 1 else (if eqb kind 3 then 2 else 3))

-- ---- from segments to a value list

unfoldable pub list_repeat : ℕ → List Bytes → List Item
list_repeat kind [] = []
list_repeat kind (v ∷ vs) = record { kind = kind; value = v } ∷ map (λ w. record { kind = 2; value = w }) vs

unfoldable pub list_element : ℕ → List (List Bytes) → List Item
list_element kind [] = []
list_element kind (repeat ∷ repeats) = list_repeat kind repeat ++ gather (list_repeat 3) repeats

unfoldable pub list_segment : List (List (List Bytes)) → List Item
list_segment [] = []
list_segment (tag ∷ elements) = list_element 0 tag ++ gather (list_element 1) elements

unfoldable pub list_of : SegmentList → List Item
list_of segments = gather list_segment segments

-- "values, without their release characters and end to end"
unfoldable pub list_bytes : List Item → Bytes
list_bytes list = gather (λ l. l.value) list

-- kind, start and length of each, the first start being the number given
unfoldable pub table_from : ℕ → List Item → List ℕ
table_from start [] = []
table_from start (l ∷ ls) = l.kind ∷ start ∷ length l.value ∷ table_from (start + length l.value) ls

unfoldable pub list_table : List Item → List ℕ
list_table list = table_from 0 list

-- ---- from a value list to segments

-- three numbers of a table
pub record Entry : Type 0 where
  pub kind : ℕ
  pub start : ℕ
  pub size : ℕ

unfoldable pub entries : List ℕ → List Entry
entries [] = []
entries (a ∷ []) = []
entries (a ∷ b ∷ []) = []
entries (a ∷ b ∷ c ∷ rest) = record { kind = a; start = b; size = c } ∷ entries rest

unfoldable pub value_in : Bytes → Entry → Bytes
value_in bytes e = take e.size (drop e.start bytes)

unfoldable pub listed_in : Bytes → List ℕ → List Item
listed_in bytes table = map (λ e. record { kind = e.kind; value = value_in bytes e }) (entries table)

-- each value with the kind of what ends it: the kind of the next value, or 0 at the end
unfoldable pub closed : List Item → List Item
closed [] = []
closed (l ∷ []) = record { kind = 0; value = l.value } ∷ []
closed (l ∷ next ∷ ls) = record { kind = next.kind; value = l.value } ∷ closed (next ∷ ls)

-- a value with which what a separator of this rank ends has ended
unfoldable pub closes : ℕ → Item → Bool
closes rank l = leb (rank_of l.kind) rank

-- the repeats of an element, the elements of a segment, and the segments, of values that are given with what ends them
abbrev pub repeats_listed : List Item → List (List Bytes)
repeats_listed element = map (map (λ l. l.value)) (cut (closes 2) element)

abbrev pub elements_listed : List Item → List (List (List Bytes))
elements_listed segment = map repeats_listed (cut (closes 1) segment)

unfoldable pub segments_listed : List Item → SegmentList
segments_listed list = map elements_listed (cut (closes 0) (closed list))

-- "the trimmed list"
unfoldable pub trim_list : SegmentList → SegmentList
trim_list segments = map (trim_segment is_empty) segments
