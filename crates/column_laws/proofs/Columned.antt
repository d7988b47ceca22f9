-- The lines of a list, read loosely, give its values with their kinds. Assumes nothing.
use Rattle.std.specs.Prelude.{if◌then◌else◌}
use Prim.Native.Nat.{ℕ, suc, ◌≤◌}
use mathlib.Core.Path.{◌≡◌, refl, sym, ap, ap₂, ◌∙◌}
use mathlib.Core.Bool.{Bool, true, false, not, ◌||◌, false≢true}
use mathlib.Core.List.{List, [], ◌∷◌, ◌++◌, map, append_assoc, append-nil}
use native.Mathlib.Omega.{arith}
use lib.Dec.{eqb}
use borrow.Author.Tests.{not-true}
use Rattle.lists.specs.Lists.{member, all, beyond, onto, cut, gather}
use Rattle.lists.proofs.Texts.{and_left, and_right, and_both, if_true, if_false}
use Rattle.lists.proofs.Pieces.{None}
use Rattle.nesting.specs.Nesting.{every}
use Rattle.values.specs.Spelling.{Bytes, SegmentList}
use Rattle.operations.specs.ValueList.{Item, list_repeat, list_element, list_segment, list_of}
use Rattle.columns.specs.Lines.{tab, line_feed, in_decimal, line, heading, gather_from, value_line, repeat_lines, element_lines, segment_lines, columns_of, fits_line}
use Rattle.columns.specs.Reading.{ends_line, ends_column, before, column, is_zero, kind_read, item_read, items_in}
use Rattle.column_laws.proofs.Decimals.{decimal_plain, zero_is, other_is}

-- ---- tests

pub all_implies : {A : Type 0} (p q : A → Bool) → ((x : A) → p x ≡ true → q x ≡ true) → (xs : List A) → all p xs ≡ true → all q xs ≡ true
unfolding all
all_implies p q h [] k = refl
all_implies p q h (x ∷ xs) k =
    and_both (q x) (all q xs) (h x (and_left (p x) (all p xs) k)) (all_implies p q h xs (and_right (p x) (all p xs) k))

-- what ends no column ends no line
within_line : (bs : Bytes) → None ends_column bs → None ends_line bs
unfolding ends_column
within_line bs h = all_implies (λ b. not (ends_column b)) (λ b. not (ends_line b)) (λ b k. step (eqb b tab) (ends_line b) k) bs h
  where
    step : (a b : Bool) → not (a || b) ≡ true → not b ≡ true
    step true b k = absurd (false≢true k)
    step false b k = k

-- a value that fits in a line ends no column
fits_plain : (value : Bytes) → fits_line value ≡ true → None ends_column value
unfolding fits_line member ends_column ends_line
fits_plain value h =
    all_implies (λ b. not (member b (tab ∷ 13 ∷ line_feed ∷ []))) (λ b. not (ends_column b)) (λ b k. step (eqb b tab) (eqb b 13) (eqb b line_feed) k) value h
  where
    step : (a b c : Bool) → not (a || (b || (c || false))) ≡ true → not (a || c) ≡ true
    step true b c k = absurd (false≢true k)
    step false true c k = absurd (false≢true k)
    step false false true k = absurd (false≢true k)
    step false false false k = refl

-- ---- columns

pub before_append : (t : ℕ → Bool) (xs : Bytes) (e : ℕ) (ys : Bytes) → None t xs → t e ≡ true → before t (xs ++ e ∷ ys) ≡ xs
unfolding before all
before_append t [] e ys n h = if_true (t e) [] (e ∷ before t ys) h
before_append t (x ∷ xs) e ys n h =
    if_false (t x) [] (x ∷ before t (xs ++ e ∷ ys)) (not-true (t x) (and_left (not (t x)) (all (λ z. not (t z)) xs) n))
    ∙ ap (λ (l : Bytes). x ∷ l) (before_append t xs e ys (and_right (not (t x)) (all (λ z. not (t z)) xs) n) h)

beyond_append : (t : ℕ → Bool) (xs : Bytes) (e : ℕ) (ys : Bytes) → None t xs → t e ≡ true → beyond t (xs ++ e ∷ ys) ≡ ys
unfolding beyond all
beyond_append t [] e ys n h = if_true (t e) ys (beyond t ys) h
beyond_append t (x ∷ xs) e ys n h =
    if_false (t x) (xs ++ e ∷ ys) (beyond t (xs ++ e ∷ ys)) (not-true (t x) (and_left (not (t x)) (all (λ z. not (t z)) xs) n))
    ∙ beyond_append t xs e ys (and_right (not (t x)) (all (λ z. not (t z)) xs) n) h

tab_ends : ends_column tab ≡ true
unfolding ends_column
tab_ends = refl

feed_ends : ends_column line_feed ≡ true
unfolding ends_column ends_line
feed_ends = refl

-- the column that ends here, and one behind it
here : (xs ys : Bytes) → None ends_column xs → column 0 (xs ++ tab ∷ ys) ≡ xs
unfolding column
here xs ys n = before_append ends_column xs tab ys n tab_ends

next : (k : ℕ) (xs ys : Bytes) → None ends_column xs → column (suc k) (xs ++ tab ∷ ys) ≡ column k ys
unfolding column
next k xs ys n = ap (column k) (beyond_append ends_column xs tab ys n tab_ends)

-- what begins with a value, by which of its numbers are 0
abbrev pub kind_by : Bool → Bool → Bool → ℕ
kind_by element repeat component = if component then (if repeat then (if element then 0 else 1) else 3) else 2

abbrev pub item : ℕ → Bytes → Item
item kind value = record { kind = kind; value = value }

last_column : (v : Bytes) → None ends_column v → column 0 (v ++ line_feed ∷ []) ≡ v
unfolding column
last_column v n = before_append ends_column v line_feed [] n feed_ends

module _ (a b c d v : Bytes) (na : None ends_column a) (nb : None ends_column b) (nc : None ends_column c) (nd : None ends_column d) (nv : None ends_column v) where
  line_read : item_read (line a b c d v) ≡ item (kind_by (is_zero b) (is_zero c) (is_zero d)) v
  unfolding line item_read kind_read
  line_read =
      let value : Bytes = v ++ line_feed ∷ [] in
      let component : Bytes = d ++ tab ∷ value in
      let repeat : Bytes = c ++ tab ∷ component in
      let element : Bytes = b ++ tab ∷ repeat in
      let one : column 1 (a ++ tab ∷ element) ≡ b = next 0 a element na ∙ here b repeat nb in
      let two : column 2 (a ++ tab ∷ element) ≡ c = next 1 a element na ∙ next 0 b repeat nb ∙ here c component nc in
      let three : column 3 (a ++ tab ∷ element) ≡ d = next 2 a element na ∙ next 1 b repeat nb ∙ next 0 c component nc ∙ here d value nd in
      let four : column 4 (a ++ tab ∷ element) ≡ v =
      next 3 a element na ∙ next 2 b repeat nb ∙ next 1 c component nc ∙ next 0 d value nd ∙ last_column v nv in
      ap₂ (λ (k : ℕ) (w : Bytes). item k w)
      (ap₂ (λ (x y : Bytes). kind_by (is_zero x) (is_zero y) (is_zero (column 3 (a ++ tab ∷ element)))) one two
      ∙ ap (λ (z : Bytes). kind_by (is_zero b) (is_zero c) (is_zero z)) three)
      four

-- ---- lines

-- a text that is one line: what follows it begins another
abbrev Whole : Bytes → Type 0
Whole x = (rest : Bytes) → cut ends_line (x ++ rest) ≡ x ∷ cut ends_line rest

whole_end : Whole (line_feed ∷ [])
unfolding cut onto ends_line
whole_end rest = refl

whole_more : (b : ℕ) (x : Bytes) → ends_line b ≡ false → Whole x → Whole (b ∷ x)
unfolding cut onto
whole_more b x e w rest = ap₂ (λ (t : Bool) (pieces : List Bytes). onto t b pieces) e (w rest)

whole_append : (xs x : Bytes) → None ends_line xs → Whole x → Whole (xs ++ x)
unfolding all
whole_append [] x n w = w
whole_append (b ∷ xs) x n w =
    whole_more b (xs ++ x) (not-true (ends_line b) (and_left (not (ends_line b)) (all (λ z. not (ends_line z)) xs) n))
    (whole_append xs x (and_right (not (ends_line b)) (all (λ z. not (ends_line z)) xs) n) w)

tab_stays : ends_line tab ≡ false
unfolding ends_line
tab_stays = refl

-- a column with its tab in front of the rest of a line
whole_column : (xs x : Bytes) → None ends_column xs → Whole x → Whole (xs ++ tab ∷ x)
whole_column xs x n w = whole_append xs (tab ∷ x) (within_line xs n) (whole_more tab x tab_stays w)

value_whole : (s e r c : ℕ) (value : Bytes) → None ends_column value → Whole (value_line s e r c value)
unfolding value_line line
value_whole s e r c value n =
    let last : Bytes = value ++ line_feed ∷ [] in
    let component : Bytes = in_decimal c ++ tab ∷ last in
    let repeat : Bytes = in_decimal r ++ tab ∷ component in
    let element : Bytes = in_decimal e ++ tab ∷ repeat in
    whole_column (in_decimal s) element (decimal_plain s)
    (whole_column (in_decimal e) repeat (decimal_plain e)
    (whole_column (in_decimal r) component (decimal_plain r)
    (whole_column (in_decimal c) last (decimal_plain c)
    (whole_append value (line_feed ∷ []) (within_line value n) whole_end))))

-- ---- values

module _ (s e r c : ℕ) (value : Bytes) (h : fits_line value ≡ true) where
  value_read : item_read (value_line s e r c value) ≡ item (kind_by (is_zero (in_decimal e)) (is_zero (in_decimal r)) (is_zero (in_decimal c))) value
  unfolding value_line
  value_read =
      line_read (in_decimal s) (in_decimal e) (in_decimal r) (in_decimal c) value
      (decimal_plain s) (decimal_plain e) (decimal_plain r) (decimal_plain c) (fits_plain value h)

  -- a line in front gives a value in front
  pub value_items : (rest : Bytes)
      → items_in (value_line s e r c value ++ rest) ≡ item (kind_by (is_zero (in_decimal e)) (is_zero (in_decimal r)) (is_zero (in_decimal c))) value ∷ items_in rest
  unfolding items_in
  value_items rest = ap (map item_read) (value_whole s e r c value (fits_plain value h) rest) ∙ ap (λ (i : Item). i ∷ items_in rest) value_read

-- the lines of parts that have numbers, where each part's lines give its values whatever its number, from a least one on
module _ {A : Type 0} (f : ℕ → A → Bytes) (g : A → List Item) (p : A → Bool) (low : ℕ)
    (each : (n : ℕ) → low ≤ n → (x : A) → p x ≡ true → (rest : Bytes) → items_in (f n x ++ rest) ≡ g x ++ items_in rest) where
  items_from_lem : (n : ℕ) → low ≤ n → (xs : List A) → all p xs ≡ true → (rest : Bytes)
      → items_in (gather_from f n xs ++ rest) ≡ gather g xs ++ items_in rest
  unfolding gather_from gather all
  items_from_lem n l [] h rest = refl
  items_from_lem n l (x ∷ xs) h rest =
      ap items_in (append_assoc (f n x) (gather_from f (suc n) xs) rest)
      ∙ each n l x (and_left (p x) (all p xs) h) (gather_from f (suc n) xs ++ rest)
      ∙ ap (λ (items : List Item). g x ++ items) (items_from_lem (suc n) (omega arith) xs (and_right (p x) (all p xs) h) rest)
      ∙ sym (append_assoc (g x) (gather g xs) (items_in rest))

  -- the first part apart from the others
  items_first : (n : ℕ) → low ≤ suc n → (k : A → List Item)
      → ((x : A) → p x ≡ true → (rest : Bytes) → items_in (f n x ++ rest) ≡ k x ++ items_in rest)
      → (x : A) (xs : List A) → all p (x ∷ xs) ≡ true → (rest : Bytes)
      → items_in (gather_from f n (x ∷ xs) ++ rest) ≡ (k x ++ gather g xs) ++ items_in rest
  unfolding gather_from all
  items_first n l k first x xs h rest =
      ap items_in (append_assoc (f n x) (gather_from f (suc n) xs) rest)
      ∙ first x (and_left (p x) (all p xs) h) (gather_from f (suc n) xs ++ rest)
      ∙ ap (λ (items : List Item). k x ++ items) (items_from_lem (suc n) l xs (and_right (p x) (all p xs) h) rest)
      ∙ sym (append_assoc (k x) (gather g xs) (items_in rest))

-- ---- repeats, elements, segments

pub gather_each : {A B : Type 0} (f : A → B) (xs : List A) → gather (λ x. f x ∷ []) xs ≡ map f xs
unfolding gather
gather_each f [] = refl
gather_each {A} {B} f (x ∷ xs) = ap (λ (l : List B). f x ∷ l) (gather_each f xs)

repeat_items : (s e r : ℕ) (values : List Bytes) → all fits_line values ≡ true → (rest : Bytes)
    → items_in (repeat_lines s e r values ++ rest)
    ≡ list_repeat (kind_by (is_zero (in_decimal e)) (is_zero (in_decimal r)) true) values ++ items_in rest
unfolding repeat_lines gather_from list_repeat
repeat_items s e r [] h rest = refl
repeat_items s e r (v ∷ vs) h rest =
    items_first (value_line s e r) (λ w. item 2 w ∷ []) fits_line 1 later 0 (omega arith) (λ w. item first w ∷ []) begin v vs h rest
    ∙ ap (λ (items : List Item). (item first v ∷ items) ++ items_in rest) (gather_each (item 2) vs)
  where
    first : ℕ
    first = kind_by (is_zero (in_decimal e)) (is_zero (in_decimal r)) true

    begin : (w : Bytes) → fits_line w ≡ true → (more : Bytes) → items_in (value_line s e r 0 w ++ more) ≡ (item first w ∷ []) ++ items_in more
    begin w k more =
        value_items s e r 0 w k more
        ∙ ap (λ (z : Bool). item (kind_by (is_zero (in_decimal e)) (is_zero (in_decimal r)) z) w ∷ items_in more) zero_is

    later : (n : ℕ) → 1 ≤ n → (w : Bytes) → fits_line w ≡ true → (more : Bytes)
        → items_in (value_line s e r n w ++ more) ≡ (item 2 w ∷ []) ++ items_in more
    later n l w k more =
        value_items s e r n w k more
        ∙ ap (λ (z : Bool). item (kind_by (is_zero (in_decimal e)) (is_zero (in_decimal r)) z) w ∷ items_in more) (other_is n l)

element_items : (s e : ℕ) (repeats : List (List Bytes)) → all (all fits_line) repeats ≡ true → (rest : Bytes)
    → items_in (element_lines s e repeats ++ rest) ≡ list_element (kind_by (is_zero (in_decimal e)) true true) repeats ++ items_in rest
unfolding element_lines gather_from list_element
element_items s e [] h rest = refl
element_items s e (v ∷ vs) h rest =
    items_first (repeat_lines s e) (list_repeat 3) (all fits_line) 1 later 0 (omega arith) (list_repeat first) begin v vs h rest
  where
    first : ℕ
    first = kind_by (is_zero (in_decimal e)) true true

    begin : (w : List Bytes) → all fits_line w ≡ true → (more : Bytes) → items_in (repeat_lines s e 0 w ++ more) ≡ list_repeat first w ++ items_in more
    begin w k more =
        repeat_items s e 0 w k more
        ∙ ap (λ (z : Bool). list_repeat (kind_by (is_zero (in_decimal e)) z true) w ++ items_in more) zero_is

    later : (n : ℕ) → 1 ≤ n → (w : List Bytes) → all fits_line w ≡ true → (more : Bytes)
        → items_in (repeat_lines s e n w ++ more) ≡ list_repeat 3 w ++ items_in more
    later n l w k more =
        repeat_items s e n w k more
        ∙ ap (λ (z : Bool). list_repeat (kind_by (is_zero (in_decimal e)) z true) w ++ items_in more) (other_is n l)

segment_items : (s : ℕ) (elements : List (List (List Bytes))) → all (all (all fits_line)) elements ≡ true → (rest : Bytes)
    → items_in (segment_lines s elements ++ rest) ≡ list_segment elements ++ items_in rest
unfolding segment_lines gather_from list_segment
segment_items s [] h rest = refl
segment_items s (v ∷ vs) h rest =
    items_first (element_lines s) (list_element 1) (all (all fits_line)) 1 later 0 (omega arith) (list_element 0) begin v vs h rest
  where
    begin : (w : List (List Bytes)) → all (all fits_line) w ≡ true → (more : Bytes) → items_in (element_lines s 0 w ++ more) ≡ list_element 0 w ++ items_in more
    begin w k more =
        element_items s 0 w k more ∙ ap (λ (z : Bool). list_element (kind_by z true true) w ++ items_in more) zero_is

    later : (n : ℕ) → 1 ≤ n → (w : List (List Bytes)) → all (all fits_line) w ≡ true → (more : Bytes)
        → items_in (element_lines s n w ++ more) ≡ list_element 1 w ++ items_in more
    later n l w k more =
        element_items s n w k more ∙ ap (λ (z : Bool). list_element (kind_by z true true) w ++ items_in more) (other_is n l)

-- ---- the text of a list

-- behind the heading stand the lines
heading_passed : (rest : Bytes) → beyond ends_line (heading ++ rest) ≡ rest
unfolding heading line beyond ends_line
heading_passed rest = refl

no_items : items_in [] ≡ []
unfolding items_in cut
no_items = refl

-- read loosely, they are the values of the list with their kinds
pub columns_items : (list : SegmentList) → every fits_line 4 list ≡ true → items_in (beyond ends_line (columns_of list)) ≡ list_of list
unfolding columns_of list_of
columns_items list h =
    ap items_in (heading_passed (gather_from segment_lines 0 list) ∙ sym (append-nil (gather_from segment_lines 0 list)))
    ∙ items_from_lem segment_lines list_segment (all (all (all fits_line))) 0 (λ n l g k rest. segment_items n g k rest) 0 (omega arith) list h []
    ∙ ap (λ (items : List Item). gather list_segment list ++ items) no_items
    ∙ append-nil (gather list_segment list)
