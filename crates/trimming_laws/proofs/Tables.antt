-- The bytes and the table of a value list give the list back, and pass refusal 15. Assumes nothing.
use Prim.Native.Nat.{ℕ, suc, ◌+◌, ◌*◌, ◌%◌, ◌≤◌}
use mathlib.Core.Path.{◌≡◌, refl, sym, ap, ap₂, ◌∙◌}
use mathlib.Core.Bool.{Bool, true, false, not, ◌&&◌, ◌||◌}
use mathlib.Core.List.{List, [], ◌∷◌, ◌++◌, map, append_assoc}
use lib.ListN.{length, take, drop, length-append}
use lib.Seq.{take-append_seam, drop-append_seam}
use lib.Dec.{leb, eqb}
use native.Mathlib.Omega.{arith}
use borrow.Author.Tests.{leb-true, le-ltb, eq-eqb, eqb-true, not-true, not-false}
use Rattle.lists.specs.Lists.{all, gather, at, maybe}
use Rattle.lists.proofs.Texts.{and_left, and_right}
use Rattle.refusals.specs.Refusals.{place_if}
use Rattle.values.specs.Spelling.{Bytes, SegmentList, leads_break}
use Rattle.operations.specs.ValueList.{Item, list_of, list_bytes, table_from, list_table, Entry, entries, value_in, listed_in, segments_listed}
use Rattle.operations.specs.Write.{numbers_where, bad_table, broken_start, bad_entry, bad_list}
use Rattle.spelling_laws.specs.Bodies.{Shaped, Unbroken}
use Rattle.trimming_laws.specs.Kinds.{first_kind, kinds_up_to3, Kinds, starts_well, unbroken_starts}
use Rattle.trimming_laws.proofs.Nesting.{listed_list_of, kinds_list_of}
use Rattle.trimming_laws.proofs.Starts.{unbroken_list_of}
use Rattle.refusals.specs.Limits.{most_bytes, most_numbers}

-- ---- the list given back

-- a value after a front part of the bytes
value_from_lem : (front value more : Bytes) → take (length value) (drop (length front) (front ++ (value ++ more))) ≡ value
value_from_lem front value more = ap (take (length value)) (drop-append_seam front (value ++ more)) ∙ take-append_seam value more

-- the values after a front part of the bytes
listed_from : (front : Bytes) (items : List Item) → listed_in (front ++ list_bytes items) (table_from (length front) items) ≡ items
unfolding listed_in list_bytes gather table_from entries value_in
listed_from front [] = refl
listed_from front (l ∷ ls) =
    ap₂ ◌∷◌
    (ap (λ (v : Bytes). record { kind = l.kind; value = v }) (value_from_lem front l.value (list_bytes ls)))
    (ap₂ (λ (bytes : Bytes) (n : ℕ). listed_in bytes (table_from n ls))
    (sym (append_assoc front l.value (list_bytes ls)))
    (sym (length-append front l.value))
    ∙ listed_from (front ++ l.value) ls)

-- the first kind of a list whose table begins with kind 0, or has nothing
pub first_listed : (bytes : Bytes) (es : List Entry) → maybe false (λ e. not (eqb e.kind 0)) (at es 0) ≡ false
    → first_kind (map (λ e. record { kind = e.kind; value = value_in bytes e }) es) ≡ 0
unfolding first_kind maybe at
first_listed bytes [] h = refl
first_listed bytes (e ∷ es) h = eqb-true e.kind 0 (not-false (eqb e.kind 0) h)

pub listed_table : (items : List Item) → listed_in (list_bytes items) (list_table items) ≡ items
unfolding list_table
listed_table items = listed_from [] items

-- a list of segments is given back by the bytes and the table of its values
pub segments_table : (list : SegmentList) → Shaped list
    → segments_listed (listed_in (list_bytes (list_of list)) (list_table (list_of list))) ≡ list
segments_table list s = ap segments_listed (listed_table (list_of list)) ∙ listed_list_of list s

-- ---- refusal 15

table_length : (start : ℕ) (items : List Item) → length (table_from start items) ≡ 3 * length items
unfolding table_from
table_length start [] = refl
table_length start (l ∷ ls) = omega (arith, table_length (start + length l.value) ls)

pub list_table_length : (items : List Item) → length (list_table items) ≡ 3 * length items
unfolding list_table
list_table_length items = table_length 0 items

-- a record whose kind is at most 3, whose value ends within the bytes and which begins no segment with a break is not bad
entry_sound : (bytes : Bytes) (e : Entry) → e.kind ≤ 3 → e.start + e.size ≤ length bytes → broken_start bytes e ≡ false
    → bad_entry bytes e ≡ false
unfolding bad_entry
entry_sound bytes e k h n = ap₂ ◌||◌ (ap₂ ◌||◌ (le-ltb 3 e.kind k) (le-ltb (length bytes) (e.start + e.size) h)) n

-- none of the records is bad, where the values stand one after the other behind a front part of the bytes
entries_sound : (front : Bytes) (items : List Item) → kinds_up_to3 items ≡ true → unbroken_starts items ≡ true → (number : ℕ)
    → numbers_where (bad_entry (front ++ list_bytes items)) number (entries (table_from (length front) items)) ≡ []
unfolding kinds_up_to3 unbroken_starts all table_from entries numbers_where place_if list_bytes gather broken_start value_in
entries_sound front [] k n number = refl
entries_sound front (l ∷ ls) k n number =
    let bytes : Bytes = front ++ (l.value ++ list_bytes ls) in
    let e : Entry = record { kind = l.kind; start = length front; size = length l.value } in
    let sizes : length bytes ≡ length front + (length l.value + length (list_bytes ls)) =
    length-append front (l.value ++ list_bytes ls) ∙ ap (λ (n : ℕ). length front + n) (length-append l.value (list_bytes ls)) in
    let kind : l.kind ≤ 3 = leb-true l.kind 3 (and_left (leb l.kind 3) (kinds_up_to3 ls) k) in
    let starts : (eqb l.kind 0 && leads_break l.value) ≡ false =
    not-true (eqb l.kind 0 && leads_break l.value) (and_left (starts_well l) (unbroken_starts ls) n) in
    ap₂ (λ (bad : Bool) (numbers : List ℕ). place_if bad number ++ numbers)
    (entry_sound bytes e kind (omega arith)
    (ap (λ (v : Bytes). eqb l.kind 0 && leads_break v) (value_from_lem front l.value (list_bytes ls)) ∙ starts))
    (ap₂ (λ (bs : Bytes) (n : ℕ). numbers_where (bad_entry bs) (suc number) (entries (table_from n ls)))
    (sym (append_assoc front l.value (list_bytes ls)))
    (sym (length-append front l.value))
    ∙ entries_sound (front ++ l.value) ls (and_right (leb l.kind 3) (kinds_up_to3 ls) k) (and_right (starts_well l) (unbroken_starts ls) n)
    (suc number))

-- the table is not bad as a whole
first_sound : (items : List Item) → first_kind items ≡ 0
    → maybe false (λ e. not (eqb e.kind 0)) (at (entries (list_table items)) 0) ≡ false
unfolding first_kind list_table table_from entries at maybe
first_sound [] h = refl
first_sound (l ∷ ls) h = ap not (eq-eqb l.kind 0 h)

table_sound : (items : List Item) → first_kind items ≡ 0 → length items ≤ most_bytes → bad_table (list_table items) ≡ false
unfolding bad_table
table_sound items f h =
    let size : length (list_table items) ≡ 3 * length items = list_table_length items in
    ap₂ ◌||◌
    (ap₂ ◌||◌
    (le-ltb most_numbers (length (list_table items)) (omega arith))
    (ap not (eq-eqb (length (list_table items) % 3) 0 (omega arith))))
    (first_sound items f)

pub list_table_sound : (items : List Item) → Kinds items → unbroken_starts items ≡ true → length items ≤ most_bytes
    → bad_list (list_bytes items) (list_table items) ≡ []
unfolding bad_list place_if list_table
list_table_sound items k n h =
    ap₂ (λ (bad : Bool) (numbers : List ℕ). place_if bad 0 ++ numbers)
    (table_sound items k.first h)
    (entries_sound [] items k.highest n 0)

-- neither is the table of a list of segments that has at most 32,000 values, and no segment that begins with a break
pub list_of_sound : (list : SegmentList) → Shaped list → Unbroken list → length (list_of list) ≤ most_bytes
    → bad_list (list_bytes (list_of list)) (list_table (list_of list)) ≡ []
unfolding Unbroken
list_of_sound list s n h = list_table_sound (list_of list) (kinds_list_of list s) (unbroken_list_of list s ∙ n) h
