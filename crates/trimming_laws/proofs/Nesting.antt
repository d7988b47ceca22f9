-- A list of segments and its value list determine one another: the kinds give back the nesting, and where the first kind is 0 and
-- none is above 3 they are those of some list of segments. Assumes nothing.
use Rattle.std.specs.Prelude.{if◌then◌else◌}
use Prim.Native.Nat.{ℕ, zero, suc, ◌≤◌}
use mathlib.Core.Path.{◌≡◌, refl, sym, ap, ap₂, fun_ext, ◌∙◌}
use mathlib.Core.Bool.{Bool, true, false}
use mathlib.Core.List.{List, [], ◌∷◌, ◌++◌, map, append_assoc, append-nil}
use lib.Dec.{eqb, leb}
use borrow.Author.Tests.{leb-true, le-leb}
use native.Mathlib.Omega.{arith}
use Rattle.lists.specs.Lists.{is_empty, all, onto, cut, gather}
use Rattle.lists.proofs.Texts.{and_left, and_right}
use Rattle.lists.proofs.Pieces.{None}
use Rattle.nesting.specs.Nesting.{Nest, shaped, by_depth, nested, written, flat}
use Rattle.nesting_laws.proofs.Shape.{every_true, shaped_some, shaped_first, shaped_rest}
use Rattle.nesting_laws.proofs.Ranks.{depth_less, depth_exact}
use Rattle.nesting_laws.proofs.Writing.{with_end, Writes, at_last, Row, nothing, ending, next, read_written, written_nested}
use Rattle.nesting_laws.proofs.Flat.{flat_step, flat_last, flat_next, all_flat}
use Rattle.values.specs.Spelling.{Bytes, SegmentList}
use Rattle.operations.specs.ValueList.{Item, rank_of, list_repeat, list_element, list_segment, list_of, closed, closes, repeats_listed, elements_listed, segments_listed}
use Rattle.spelling_laws.specs.Bodies.{shaped_segment, Shaped}
use Rattle.trimming_laws.specs.Kinds.{first_kind, kinds_up_to3, Kinds}

-- ---- kinds by depth

abbrev pub item : ℕ → Bytes → Item
item kind value = record { kind = kind; value = value }

-- "0 new segment, 1 new element, 2 next component", "kind 3 (a next repeat's first value)": what begins, by its depth
abbrev pub kind_of : ℕ → ℕ
kind_of zero = 2
kind_of (suc zero) = 3
kind_of (suc (suc zero)) = 1
kind_of (suc (suc (suc depth))) = 0

-- a value with which a part of this depth has ended
abbrev closes_part : ℕ → Item → Bool
closes_part depth l = by_depth 3 closes depth l

-- a value is written as a record with what ends it
abbrev front_of : Bytes → List Item
front_of value = []

abbrev end_of : ℕ → Bytes → Item
end_of depth value = item (kind_of depth) value

abbrev closed_of : (n end : ℕ) → Nest Bytes n → List Item
closed_of = written (with_end front_of end_of)

less : (n : ℕ) (l : Item) → closes_part (suc n) l ≡ true → closes_part n l ≡ true
unfolding closes
less = depth_less 3 closes (λ low high h l e. le-leb (rank_of l.kind) high (omega (arith, leb-true (rank_of l.kind) low e)))

quiet : (value : Bytes) → None (closes_part 0) (front_of value)
unfolding all
quiet value = refl

exact : (n end : ℕ) (value : Bytes) → end ≤ 3 → closes_part n (end_of end value) ≡ leb n end
unfolding closes rank_of
exact n zero value k = depth_exact 3 closes 0 k (end_of 0 value) (λ rank. refl) n
exact n (suc zero) value k = depth_exact 3 closes 1 k (end_of 1 value) (λ rank. refl) n
exact n (suc (suc zero)) value k = depth_exact 3 closes 2 k (end_of 2 value) (λ rank. refl) n
exact n (suc (suc (suc zero))) value k = depth_exact 3 closes 3 k (end_of 3 value) (λ rank. refl) n
exact n (suc (suc (suc (suc end)))) value k = absurd (omega arith)

-- ---- the value list of a list of segments

repeat_flat : (kind : ℕ) (repeat : List Bytes) → list_repeat kind repeat ≡ flat kind_of item 1 kind repeat
unfolding list_repeat
repeat_flat kind [] = refl
repeat_flat kind (v ∷ vs) = refl

element_flat : (kind : ℕ) (element : List (List Bytes)) → list_element kind element ≡ flat kind_of item 2 kind element
unfolding list_element
element_flat kind [] = refl
element_flat kind (repeat ∷ repeats) =
    ap₂ ◌++◌ (repeat_flat kind repeat) (ap (λ (f : List Bytes → List Item). gather f repeats) (fun_ext (repeat_flat 3)))

pub segment_flat : (segment : List (List (List Bytes))) → list_segment segment ≡ flat kind_of item 3 0 segment
unfolding list_segment
segment_flat [] = refl
segment_flat (tag ∷ elements) =
    ap₂ ◌++◌ (element_flat 0 tag) (ap (λ (f : List (List Bytes) → List Item). gather f elements) (fun_ext (element_flat 1)))

pub list_of_flat : (list : SegmentList) → list_of list ≡ flat kind_of item 4 0 list
unfolding list_of gather
list_of_flat [] = refl
list_of_flat (g ∷ list) = ap (λ (f : List (List (List Bytes)) → List Item). gather f (g ∷ list)) (fun_ext segment_flat)

-- the first value begins what it is said to begin
pub flat_first : (n kind : ℕ) (x : Nest Bytes n) → shaped Bytes n x ≡ true → (rest : List Item) → first_kind (flat kind_of item n kind x ++ rest) ≡ kind
unfolding first_kind
flat_first zero kind v s rest = refl
flat_first (suc n) kind [] s rest = absurd (shaped_some Bytes n s)
flat_first (suc n) kind (x ∷ xs) s rest =
    ap (λ (l : List Item). first_kind (l ++ rest)) (flat_step kind_of item n kind x xs)
    ∙ ap first_kind (append_assoc (flat kind_of item n kind x) (gather (flat kind_of item n (kind_of n)) xs) rest)
    ∙ flat_first n kind x (shaped_first Bytes n x xs s) (gather (flat kind_of item n (kind_of n)) xs ++ rest)

closed_next : (l : Item) (ls : List Item) → closed (l ∷ ls) ≡ item (first_kind ls) l.value ∷ closed ls
unfolding closed first_kind
closed_next l [] = refl
closed_next l (m ∷ ms) = refl

-- with what ends each of them, the values are those that are written
closed_flat : (n kind end : ℕ) (x : Nest Bytes n) → shaped Bytes n x ≡ true → (rest : List Item) → first_kind rest ≡ kind_of end
    → closed (flat kind_of item n kind x ++ rest) ≡ closed_of n end x ++ closed rest
closed_flat zero kind end v s rest e = closed_next (item kind v) rest ∙ ap (λ (k : ℕ). item k v ∷ closed rest) e
closed_flat (suc n) kind end [] s rest e = absurd (shaped_some Bytes n s)
closed_flat (suc n) kind end (x ∷ []) s rest e =
    ap (λ (l : List Item). closed (l ++ rest)) (flat_last kind_of item n kind x)
    ∙ closed_flat n kind end x (shaped_first Bytes n x [] s) rest e
closed_flat (suc n) kind end (x ∷ y ∷ ys) s rest e =
    let others = shaped_rest Bytes n x y ys s in
    let more : List Item = flat kind_of item (suc n) (kind_of n) (y ∷ ys) in
    ap (λ (l : List Item). closed (l ++ rest)) (flat_next kind_of item n kind x y ys)
    ∙ ap closed (append_assoc (flat kind_of item n kind x) more rest)
    ∙ closed_flat n kind n x (shaped_first Bytes n x (y ∷ ys) s) (more ++ rest) (flat_first (suc n) (kind_of n) (y ∷ ys) others rest)
    ∙ ap (λ (l : List Item). closed_of n n x ++ l) (closed_flat (suc n) (kind_of n) end (y ∷ ys) others rest e)
    ∙ sym (append_assoc (closed_of n n x) (closed_of (suc n) end (y ∷ ys)) (closed rest))

closed_list_of : (list : SegmentList) → Shaped list → closed (list_of list) ≡ closed_of 4 3 list
unfolding Shaped shaped_segment closed first_kind is_empty list_of gather
closed_list_of [] s = refl
closed_list_of (g ∷ list) s =
    ap closed (list_of_flat (g ∷ list) ∙ sym (append-nil (flat kind_of item 4 0 (g ∷ list))))
    ∙ closed_flat 4 0 3 (g ∷ list) s [] refl
    ∙ append-nil (closed_of 4 3 (g ∷ list))

pub kinds_list_of : (list : SegmentList) → Shaped list → Kinds (list_of list)
unfolding Shaped shaped_segment is_empty first_kind kinds_up_to3 list_of gather
kinds_list_of list s = record { first = first list s; highest = highest }
  where
    first : (list : SegmentList) → Shaped list → first_kind (list_of list) ≡ 0
    first [] s = refl
    first (g ∷ list) s =
        ap first_kind (list_of_flat (g ∷ list) ∙ sym (append-nil (flat kind_of item 4 0 (g ∷ list)))) ∙ flat_first 4 0 (g ∷ list) s []

    ours : (depth : ℕ) → leb (kind_of depth) 3 ≡ true
    ours zero = refl
    ours (suc zero) = refl
    ours (suc (suc zero)) = refl
    ours (suc (suc (suc depth))) = refl

    highest : kinds_up_to3 (list_of list) ≡ true
    highest =
        ap (all (λ l. leb l.kind 3)) (list_of_flat list)
        ∙ all_flat kind_of item (λ kind. leb kind 3 ≡ true) (λ l. leb l.kind 3) (λ v. true) (λ kind v h. h) ours 4 0 refl list
        ∙ every_true (λ v. true) (λ v. refl) 4 list

-- ---- the list of segments of a value list

-- the value of records that end with the first
abbrev value_first : List Item → Bytes
value_first [] = []
value_first (l ∷ ls) = l.value

listed_nested : (items : List Item) → segments_listed items ≡ nested closes_part value_first 4 (closed items)
unfolding segments_listed cut onto closes rank_of
listed_nested items = ap (λ (f : List Item → List (List (List Bytes))). map f (cut (closes 0) (closed items))) (fun_ext segment)
  where
    last : (a b c : Bool) → leb (if a then 0 else (if b then 1 else (if c then 2 else 3))) 3 ≡ true
    last true b c = refl
    last false true c = refl
    last false false true = refl
    last false false false = refl

    repeat : (ls : List Item) → map (λ l. l.value) ls ≡ map value_first (cut (closes 3) ls)
    repeat [] = refl
    repeat (l ∷ ls) =
        ap (λ (t : List Bytes). l.value ∷ t) (repeat ls)
        ∙ ap (λ (b : Bool). map value_first (onto b l (cut (closes 3) ls))) (sym (last (leb l.kind 0) (leb l.kind 1) (eqb l.kind 3)))

    element : (ls : List Item) → repeats_listed ls ≡ nested closes_part value_first 2 ls
    element ls = ap (λ (f : List Item → List Bytes). map f (cut (closes 2) ls)) (fun_ext repeat)

    segment : (ls : List Item) → elements_listed ls ≡ nested closes_part value_first 3 ls
    segment ls = ap (λ (f : List Item → List (List Bytes)). map f (cut (closes 1) ls)) (fun_ext element)

-- the kinds give back the nesting
pub listed_list_of : (list : SegmentList) → Shaped list → segments_listed (list_of list) ≡ list
unfolding Shaped shaped_segment
listed_list_of list s =
    listed_nested (list_of list)
    ∙ ap (nested closes_part value_first 4) (closed_list_of list s)
    ∙ read_written closes_part front_of end_of 3 less quiet exact value_first (λ end v. refl) list s

-- ---- every value list of such kinds is that of a list of segments

abbrev add : Item → Bytes → Bytes
add l value = l.value

writes : (kind : ℕ) (v : Bytes) → leb kind 3 ≡ true → Writes closes_part front_of end_of 3 less quiet exact [] add (item kind v)
writes zero v h = at_last 3 (omega arith) refl refl
writes (suc zero) v h = at_last 2 (omega arith) refl refl
writes (suc (suc zero)) v h = at_last 0 (omega arith) refl refl
writes (suc (suc (suc zero))) v h = at_last 1 (omega arith) refl refl
writes (suc (suc (suc (suc kind)))) v h = absurd (omega (arith, leb-true (suc (suc (suc (suc kind)))) 3 h))

row : (items : List Item) → kinds_up_to3 items ≡ true → Row closes_part front_of end_of 3 less quiet exact [] add (closed items)
unfolding closed kinds_up_to3 all closes rank_of
row [] h = nothing
row (l ∷ []) h = ending (writes 0 l.value refl) refl
row (l ∷ m ∷ []) h =
    next (writes m.kind l.value (and_left (leb m.kind 3) true (and_right (leb l.kind 3) (kinds_up_to3 (m ∷ [])) h)))
    (row (m ∷ []) (and_right (leb l.kind 3) (kinds_up_to3 (m ∷ [])) h))
row (l ∷ m ∷ n ∷ ns) h =
    let others = and_right (leb l.kind 3) (kinds_up_to3 (m ∷ n ∷ ns)) h in
    next (writes m.kind l.value (and_left (leb m.kind 3) (kinds_up_to3 (n ∷ ns)) others)) (row (m ∷ n ∷ ns) others)

-- with what ends each of them, they are the values of the list that the kinds give, which has the shape of one
closed_listed : (items : List Item) → Kinds items → (closed_of 4 3 (segments_listed items) ≡ closed items) × Shaped (segments_listed items)
unfolding Shaped shaped_segment
closed_listed items k =
    rw (listed_nested items)
    (written_nested closes_part front_of end_of 3 less quiet exact [] add value_first refl (λ l ls. refl) (row items k.highest))

pub shaped_listed : (items : List Item) → Kinds items → Shaped (segments_listed items)
shaped_listed items k = (closed_listed items k).1

-- values with what ends them, and what the first begins, give the value list back
abbrev opened : ℕ → List Item → List Item
opened kind [] = []
opened kind (l ∷ ls) = item kind l.value ∷ opened l.kind ls

opened_closed : (items : List Item) → opened (first_kind items) (closed items) ≡ items
unfolding first_kind closed
opened_closed [] = refl
opened_closed (l ∷ ls) = ap (opened l.kind) (closed_next l ls) ∙ ap (λ (ms : List Item). l ∷ ms) (opened_closed ls)

pub list_of_listed : (items : List Item) → Kinds items → list_of (segments_listed items) ≡ items
list_of_listed items k =
    let list : SegmentList = segments_listed items in
    let s = shaped_listed items k in
    sym (opened_closed (list_of list))
    ∙ ap₂ opened ((kinds_list_of list s).first ∙ sym k.first) (closed_list_of list s ∙ (closed_listed items k).0)
    ∙ opened_closed items
