-- The lines of a list of segments are those of its values, one after the other. Assumes nothing.
use Rattle.std.specs.Prelude.{if◌then◌else◌}
use Prim.Native.Nat.{ℕ, suc, ◌+◌, ◌≤◌}
use mathlib.Core.Path.{◌≡◌, refl, sym, ap, ◌∙◌}
use mathlib.Core.Bool.{Bool, true, false}
use mathlib.Core.List.{List, [], ◌∷◌, ◌++◌, append_assoc, append-nil}
use native.Mathlib.Omega.{arith}
use native.Mathlib.Numerals.{add-one}
use lib.Dec.{leb, eqb}
use Rattle.lists.specs.Lists.{all, gather}
use Rattle.lists.proofs.Texts.{and_left, and_right}
use Rattle.nesting.specs.Nesting.{shaped}
use Rattle.nesting_laws.proofs.Shape.{shaped_some, shaped_first, shaped_all}
use Rattle.values.specs.Spelling.{Bytes, SegmentList}
use Rattle.operations.specs.ValueList.{Item, rank_of, list_repeat, list_element, list_segment, list_of}
use Rattle.spelling_laws.specs.Bodies.{shaped_segment, Shaped}
use Rattle.trimming_laws.specs.Kinds.{first_kind}
use Rattle.columns.specs.Lines.{heading, gather_from, value_line, repeat_lines, element_lines, segment_lines, columns_of}
use Rattle.column_laws.specs.declared.Position.{Position}
use Rattle.column_laws.specs.Positions.{at, next_at, lines_at}
use Rattle.column_laws.proofs.Columned.{item, gather_each}

-- ---- positions

-- what begins a repeat, an element or a segment does so whatever the number of the component, and so on
by_component : (s e r c d kind : ℕ) → rank_of kind ≤ 2 → next_at (at s e r c) kind ≡ next_at (at s e r d) kind
unfolding next_at rank_of
by_component s e r c d kind = step (leb kind 0) (leb kind 1) (eqb kind 3)
  where
    step : (x y z : Bool) → (if x then 0 else (if y then 1 else (if z then 2 else 3))) ≤ 2
        → (if x then at (s + 1) 0 0 0 else (if y then at s (e + 1) 0 0 else (if z then at s e (r + 1) 0 else at s e r (c + 1))))
        ≡ (if x then at (s + 1) 0 0 0 else (if y then at s (e + 1) 0 0 else (if z then at s e (r + 1) 0 else at s e r (d + 1))))
    step true y z l = refl
    step false true z l = refl
    step false false true l = refl
    step false false false l = absurd (omega arith)

by_repeat : (s e r q kind : ℕ) → rank_of kind ≤ 1 → next_at (at s e r 0) kind ≡ next_at (at s e q 0) kind
unfolding next_at rank_of
by_repeat s e r q kind = step (leb kind 0) (leb kind 1) (eqb kind 3)
  where
    step : (x y z : Bool) → (if x then 0 else (if y then 1 else (if z then 2 else 3))) ≤ 1
        → (if x then at (s + 1) 0 0 0 else (if y then at s (e + 1) 0 0 else (if z then at s e (r + 1) 0 else at s e r 1)))
        ≡ (if x then at (s + 1) 0 0 0 else (if y then at s (e + 1) 0 0 else (if z then at s e (q + 1) 0 else at s e q 1)))
    step true y z l = refl
    step false true z l = refl
    step false false true l = absurd (omega arith)
    step false false false l = absurd (omega arith)

by_element : (s e f kind : ℕ) → rank_of kind ≤ 0 → next_at (at s e 0 0) kind ≡ next_at (at s f 0 0) kind
unfolding next_at rank_of
by_element s e f kind = step (leb kind 0) (leb kind 1) (eqb kind 3)
  where
    step : (x y z : Bool) → (if x then 0 else (if y then 1 else (if z then 2 else 3))) ≤ 0
        → (if x then at (s + 1) 0 0 0 else (if y then at s (e + 1) 0 0 else (if z then at s e 1 0 else at s e 0 1)))
        ≡ (if x then at (s + 1) 0 0 0 else (if y then at s (f + 1) 0 0 else (if z then at s f 1 0 else at s f 0 1)))
    step true y z l = refl
    step false true z l = absurd (omega arith)
    step false false true l = absurd (omega arith)
    step false false false l = absurd (omega arith)

-- ---- parts of one depth, each with its lines

-- Parts that begin at positions which a kind leads through; the items of one begin with the kind that is said. Where what follows a part
-- begins what is of rank `inner` at most, its next position is known by the part's own.
module _ {A : Type 0} (f : ℕ → A → Bytes) (g : ℕ → A → List Item) (p : A → Bool) (kind inner outer : ℕ) (pos : ℕ → Position)
    (within : outer ≤ inner)
    (ranked : rank_of kind ≤ inner)
    (leads : (n : ℕ) → next_at (pos n) kind ≡ pos (suc n))
    (whichever : (m n k : ℕ) → rank_of k ≤ outer → next_at (pos m) k ≡ next_at (pos n) k)
    (begins : (k : ℕ) (x : A) → p x ≡ true → (rest : List Item) → first_kind (g k x ++ rest) ≡ k)
    (each : (n k : ℕ) (x : A) → p x ≡ true → (rest : List Item) → rank_of (first_kind rest) ≤ inner
    → lines_at (pos n) (g k x ++ rest) ≡ f n x ++ lines_at (next_at (pos n) (first_kind rest)) rest) where
  parts_lines : (n k : ℕ) (x : A) (xs : List A) → all p (x ∷ xs) ≡ true → (rest : List Item) → rank_of (first_kind rest) ≤ outer
      → lines_at (pos n) ((g k x ++ gather (g kind) xs) ++ rest) ≡ gather_from f n (x ∷ xs) ++ lines_at (next_at (pos n) (first_kind rest)) rest
  unfolding all gather gather_from
  parts_lines n k x [] h rest l =
      ap (λ (items : List Item). lines_at (pos n) (items ++ rest)) (append-nil (g k x))
      ∙ each n k x (and_left (p x) true h) rest (omega arith)
      ∙ ap (λ (t : Bytes). t ++ lines_at (next_at (pos n) (first_kind rest)) rest) (sym (append-nil (f n x)))
  parts_lines n k x (y ∷ ys) h rest l =
      let others : List Item = g kind y ++ gather (g kind) ys in
      let good = and_right (p x) (all p (y ∷ ys)) h in
      let first : first_kind (others ++ rest) ≡ kind =
      ap first_kind (append_assoc (g kind y) (gather (g kind) ys) rest) ∙ begins kind y (and_left (p y) (all p ys) good) (gather (g kind) ys ++ rest) in
      ap (lines_at (pos n)) (append_assoc (g k x) others rest)
      ∙ each n k x (and_left (p x) (all p (y ∷ ys)) h) (others ++ rest) (omega (arith, ap rank_of first))
      ∙ ap (λ (q : Position). f n x ++ lines_at q (others ++ rest)) (ap (next_at (pos n)) first ∙ leads n)
      ∙ ap (λ (t : Bytes). f n x ++ t) (parts_lines (suc n) kind y ys good rest l)
      ∙ ap (λ (q : Position). f n x ++ (gather_from f (suc n) (y ∷ ys) ++ lines_at q rest)) (whichever (suc n) n (first_kind rest) l)
      ∙ sym (append_assoc (f n x) (gather_from f (suc n) (y ∷ ys)) (lines_at (next_at (pos n) (first_kind rest)) rest))

-- ---- repeats

-- the end counts as a new segment
last_rank : rank_of (first_kind []) ≡ 0
unfolding rank_of first_kind
last_rank = refl

ranks : (rank_of 2 ≡ 3) × (rank_of 3 ≡ 2) × (rank_of 1 ≡ 1) × (rank_of 0 ≡ 0)
unfolding rank_of
ranks = (refl, refl, refl, refl)

rank_most : (kind : ℕ) → rank_of kind ≤ 3
unfolding rank_of
rank_most kind = step (leb kind 0) (leb kind 1) (eqb kind 3)
  where
    step : (x y z : Bool) → (if x then 0 else (if y then 1 else (if z then 2 else 3))) ≤ 3
    step true y z = omega arith
    step false true z = omega arith
    step false false true = omega arith
    step false false false = omega arith

next_component : (s e r n : ℕ) → next_at (at s e r n) 2 ≡ at s e r (suc n)
unfolding next_at
next_component s e r n = ap (at s e r) (add-one n)

next_repeat : (s e n : ℕ) → next_at (at s e n 0) 3 ≡ at s e (suc n) 0
unfolding next_at
next_repeat s e n = ap (λ (m : ℕ). at s e m 0) (add-one n)

next_element : (s n : ℕ) → next_at (at s n 0 0) 1 ≡ at s (suc n) 0 0
unfolding next_at
next_element s n = ap (λ (m : ℕ). at s m 0 0) (add-one n)

next_segment : (n : ℕ) → next_at (at n 0 0 0) 0 ≡ at (suc n) 0 0 0
unfolding next_at
next_segment n = ap (λ (m : ℕ). at m 0 0 0) (add-one n)

one_first : (k : ℕ) (v : Bytes) (rest : List Item) → first_kind ((item k v ∷ []) ++ rest) ≡ k
unfolding first_kind
one_first k v rest = refl

one_line : (s e r n k : ℕ) (v : Bytes) (rest : List Item)
    → lines_at (at s e r n) ((item k v ∷ []) ++ rest) ≡ value_line s e r n v ++ lines_at (next_at (at s e r n) (first_kind rest)) rest
unfolding lines_at
one_line s e r n k v rest = refl

repeat_first : (k : ℕ) (x : List Bytes) → shaped Bytes 1 x ≡ true → (rest : List Item) → first_kind (list_repeat k x ++ rest) ≡ k
unfolding first_kind list_repeat
repeat_first k [] h rest = absurd (shaped_some Bytes 0 h)
repeat_first k (v ∷ vs) h rest = refl

anything : (values : List Bytes) → all (λ v. true) values ≡ true
unfolding all
anything [] = refl
anything (v ∷ vs) = anything vs

repeat_lines_lem : (s e n k : ℕ) (x : List Bytes) → shaped Bytes 1 x ≡ true → (rest : List Item) → rank_of (first_kind rest) ≤ 2
    → lines_at (at s e n 0) (list_repeat k x ++ rest) ≡ repeat_lines s e n x ++ lines_at (next_at (at s e n 0) (first_kind rest)) rest
unfolding list_repeat repeat_lines
repeat_lines_lem s e n k [] h rest l = absurd (shaped_some Bytes 0 h)
repeat_lines_lem s e n k (v ∷ vs) h rest l =
    ap (λ (items : List Item). lines_at (at s e n 0) ((item k v ∷ items) ++ rest)) (sym (gather_each (item 2) vs))
    ∙ parts_lines (value_line s e n) (λ kind w. item kind w ∷ []) (λ w. true) 2 3 2 (at s e n) (omega arith) (rank_most 2)
    (next_component s e n) (λ c d kind r. by_component s e n c d kind r) (λ kind w t more. one_first kind w more)
    (λ m kind w t more r. one_line s e n m kind w more)
    0 k v vs (anything (v ∷ vs)) rest l

-- ---- elements

element_first : (k : ℕ) (x : List (List Bytes)) → shaped Bytes 2 x ≡ true → (rest : List Item) → first_kind (list_element k x ++ rest) ≡ k
unfolding list_element
element_first k [] h rest = absurd (shaped_some Bytes 1 h)
element_first k (x ∷ xs) h rest =
    ap first_kind (append_assoc (list_repeat k x) (gather (list_repeat 3) xs) rest)
    ∙ repeat_first k x (shaped_first Bytes 1 x xs h) (gather (list_repeat 3) xs ++ rest)

element_lines_lem : (s n k : ℕ) (x : List (List Bytes)) → shaped Bytes 2 x ≡ true → (rest : List Item) → rank_of (first_kind rest) ≤ 1
    → lines_at (at s n 0 0) (list_element k x ++ rest) ≡ element_lines s n x ++ lines_at (next_at (at s n 0 0) (first_kind rest)) rest
unfolding list_element element_lines
element_lines_lem s n k [] h rest l = absurd (shaped_some Bytes 1 h)
element_lines_lem s n k (x ∷ xs) h rest l =
    parts_lines (repeat_lines s n) list_repeat (shaped Bytes 1) 3 2 1 (λ m. at s n m 0) (omega arith) (omega (arith, ranks.1))
    (next_repeat s n) (λ r q kind low. by_repeat s n r q kind low) repeat_first (repeat_lines_lem s n)
    0 k x xs (shaped_all Bytes 1 (x ∷ xs) h) rest l

-- ---- segments

segment_first : (k : ℕ) (x : List (List (List Bytes))) → shaped_segment x ≡ true → (rest : List Item) → first_kind (list_segment x ++ rest) ≡ 0
unfolding shaped_segment list_segment
segment_first k [] h rest = absurd (shaped_some Bytes 2 h)
segment_first k (x ∷ xs) h rest =
    ap first_kind (append_assoc (list_element 0 x) (gather (list_element 1) xs) rest)
    ∙ element_first 0 x (shaped_first Bytes 2 x xs h) (gather (list_element 1) xs ++ rest)

segment_lines_lem : (n : ℕ) (x : List (List (List Bytes))) → shaped_segment x ≡ true → (rest : List Item) → rank_of (first_kind rest) ≤ 0
    → lines_at (at n 0 0 0) (list_segment x ++ rest) ≡ segment_lines n x ++ lines_at (next_at (at n 0 0 0) (first_kind rest)) rest
unfolding shaped_segment list_segment segment_lines
segment_lines_lem n [] h rest l = absurd (shaped_some Bytes 2 h)
segment_lines_lem n (x ∷ xs) h rest l =
    parts_lines (element_lines n) list_element (shaped Bytes 2) 1 1 0 (λ m. at n m 0 0) (omega arith) (omega (arith, ranks.2))
    (next_element n) (λ e f kind low. by_element n e f kind low) element_first (element_lines_lem n)
    0 0 x xs (shaped_all Bytes 2 (x ∷ xs) h) rest l

-- the lines of a list are those of its values
list_lines : (n : ℕ) (list : SegmentList) → Shaped list → gather_from segment_lines n list ≡ lines_at (at n 0 0 0) (list_of list)
unfolding Shaped all list_of gather gather_from lines_at
list_lines n [] h = refl
list_lines n (x ∷ []) h =
    sym (segment_lines_lem n x (and_left (shaped_segment x) true h) [] (omega (arith, last_rank)))
list_lines n (x ∷ y ∷ ys) h =
    let others = and_right (shaped_segment x) (all shaped_segment (y ∷ ys)) h in
    let good = and_left (shaped_segment y) (all shaped_segment ys) others in
    let first : first_kind (list_of (y ∷ ys)) ≡ 0 = segment_first 0 y good (gather list_segment ys) in
    ap (λ (t : Bytes). segment_lines n x ++ t)
    (list_lines (suc n) (y ∷ ys) others ∙ ap (λ (q : Position). lines_at q (list_of (y ∷ ys))) (sym (ap (next_at (at n 0 0 0)) first ∙ next_segment n)))
    ∙ sym (segment_lines_lem n x (and_left (shaped_segment x) (all shaped_segment (y ∷ ys)) h) (list_of (y ∷ ys)) (omega (arith, ap rank_of first, ranks.3)))

-- its text is the heading and these lines
pub columns_lines : (list : SegmentList) → Shaped list → columns_of list ≡ heading ++ lines_at (at 0 0 0 0) (list_of list)
unfolding columns_of
columns_lines list h = ap (λ (t : Bytes). heading ++ t) (list_lines 0 list h)
