-- A list is trimmed exactly where none of its values is an idle end: an empty one before what begins more than it does. Assumes nothing.
use Prim.Native.Nat.{ℕ, zero, suc, ◌+◌, ◌≤◌}
use mathlib.Core.Path.{◌≡◌, refl, sym, ap, ap₂, ◌∙◌}
use mathlib.Core.Bool.{Bool, true, false, not, ◌&&◌, and-true}
use mathlib.Core.List.{List, [], ◌∷◌, ◌++◌, map, append_assoc, head-eq_of_cons-eq, tail-eq_of_cons-eq, nil≢cons}
use mathlib.Core.Logic.{◌↔◌}
use native.Mathlib.Omega.{arith}
use lib.Dec.{ltb}
use borrow.Author.Tests.{lt-ltb, le-ltb, not-true}
use Rattle.lists.specs.Lists.{is_empty, all, gather, unless_idle, drop_end, trim_end}
use Rattle.lists.proofs.Texts.{and_left, and_right, and_both}
use Rattle.nesting.specs.Nesting.{Nest, shaped, flat, is_idle, idle, trim}
use Rattle.nesting_laws.proofs.Shape.{trim_step, shaped_some, shaped_first, shaped_rest}
use Rattle.nesting_laws.proofs.Flat.{flat_last, flat_next}
use Rattle.values.specs.Trimming.{trim_repeat, trim_element, trim_segment}
use Rattle.values.specs.Spelling.{Bytes, SegmentList}
use Rattle.operations.specs.ValueList.{Item, rank_of, list_of, trim_list}
use Rattle.spelling_laws.specs.Bodies.{shaped_segment, Shaped}
use Rattle.trimming_laws.specs.Kinds.{first_kind}
use Rattle.trimming_laws.proofs.Nesting.{item, kind_of, flat_first, segment_flat, kinds_list_of}
use Rattle.column_laws.specs.Idle.{is_idle_end, no_idle_ends}

-- ---- what trimming leaves as it is

-- each passes the one test, and the last does not pass the other
unfoldable pub none_last : {A : Type 0} → (A → Bool) → (A → Bool) → List A → Bool
none_last t i [] = true
none_last t i (x ∷ []) = t x && not (i x)
none_last t i (x ∷ y ∷ ys) = t x && none_last t i (y ∷ ys)

-- where f leaves as it is what passes t, and nothing else: done to each, and an idle end dropped
module _ {A : Type 0} (f : A → A) (t i : A → Bool) (h : (x : A) → (f x ≡ x) ↔ (t x ≡ true)) where
  stays_none : (xs : List A) → drop_end i (map f xs) ≡ xs → none_last t i xs ≡ true
  unfolding none_last drop_end unless_idle
  stays_none [] e = refl
  stays_none (x ∷ []) e = step (i (f x)) refl e
    where
      step : (b : Bool) → i (f x) ≡ b → unless_idle b (f x) [] ≡ x ∷ [] → (t x && not (i x)) ≡ true
      step true d k = absurd (nil≢cons k)
      step false d k =
          let same : f x ≡ x = head-eq_of_cons-eq k in
          and_both (t x) (not (i x)) ((h x).0 same) (ap not (ap i (sym same) ∙ d))
  stays_none (x ∷ y ∷ ys) e = step (i (f x)) (drop_end i (map f (y ∷ ys))) e (stays_none (y ∷ ys))
    where
      step : (b : Bool) (left : List A) → unless_idle b (f x) left ≡ x ∷ y ∷ ys → (left ≡ y ∷ ys → none_last t i (y ∷ ys) ≡ true)
          → (t x && none_last t i (y ∷ ys)) ≡ true
      step true [] k more = absurd (nil≢cons k)
      step false [] k more = absurd (nil≢cons (tail-eq_of_cons-eq k))
      step true (z ∷ zs) k more = and_both (t x) (none_last t i (y ∷ ys)) ((h x).0 (head-eq_of_cons-eq k)) (more (tail-eq_of_cons-eq k))
      step false (z ∷ zs) k more = and_both (t x) (none_last t i (y ∷ ys)) ((h x).0 (head-eq_of_cons-eq k)) (more (tail-eq_of_cons-eq k))

  none_stays : (xs : List A) → none_last t i xs ≡ true → drop_end i (map f xs) ≡ xs
  unfolding none_last drop_end unless_idle
  none_stays [] e = refl
  none_stays (x ∷ []) e =
      let same : f x ≡ x = (h x).1 (and_left (t x) (not (i x)) e) in
      ap₂ (λ (b : Bool) (y : A). unless_idle b y []) (ap i same ∙ not-true (i x) (and_right (t x) (not (i x)) e)) same
  none_stays (x ∷ y ∷ ys) e =
      ap (unless_idle (i (f x)) (f x)) (none_stays (y ∷ ys) (and_right (t x) (none_last t i (y ∷ ys)) e))
      ∙ step (i (f x))
      ∙ ap (λ (z : A). z ∷ y ∷ ys) ((h x).1 (and_left (t x) (none_last t i (y ∷ ys)) e))
    where
      step : (b : Bool) → unless_idle b (f x) (y ∷ ys) ≡ f x ∷ y ∷ ys
      step true = refl
      step false = refl

-- nothing of it is trimmed
abbrev pub is_trimmed : (n : ℕ) → Nest Bytes n → Bool
is_trimmed zero v = true
is_trimmed (suc n) [] = true
is_trimmed (suc n) (x ∷ xs) = is_trimmed n x && none_last (is_trimmed n) (idle Bytes is_empty n) xs

pub trimmed_exactly : (n : ℕ) (x : Nest Bytes n) → (trim Bytes is_empty n x ≡ x) ↔ (is_trimmed n x ≡ true)
unfolding trim_end
trimmed_exactly zero v = (λ e. refl, λ e. refl)
trimmed_exactly (suc n) [] = (λ e. refl, λ e. trim_step Bytes is_empty n [])
trimmed_exactly (suc n) (x ∷ xs) =
    let step = trim_step Bytes is_empty n (x ∷ xs) in
    let here = trimmed_exactly n x in
    let each : (y : Nest Bytes n) → (trim Bytes is_empty n y ≡ y) ↔ (is_trimmed n y ≡ true) = trimmed_exactly n in
    let f : Nest Bytes n → Nest Bytes n = trim Bytes is_empty n in (
      λ e.
          let whole = sym step ∙ e in
          and_both (is_trimmed n x) (none_last (is_trimmed n) (idle Bytes is_empty n) xs)
          (here.0 (head-eq_of_cons-eq whole))
          (stays_none f (is_trimmed n) (idle Bytes is_empty n) each xs (tail-eq_of_cons-eq whole)),
      λ e.
          step
          ∙ ap₂ (λ (y : Nest Bytes n) (ys : List (Nest Bytes n)). y ∷ ys)
          (here.1 (and_left (is_trimmed n x) (none_last (is_trimmed n) (idle Bytes is_empty n) xs) e))
          (none_stays f (is_trimmed n) (idle Bytes is_empty n) each xs (and_right (is_trimmed n x) (none_last (is_trimmed n) (idle Bytes is_empty n) xs) e)),
    )

-- ---- told from the values

abbrev items : (n : ℕ) → ℕ → Nest Bytes n → List Item
items n kind x = flat kind_of item n kind x

rank_kind : (n : ℕ) → n ≤ 3 → rank_of (kind_of n) + n ≡ 3
unfolding rank_of
rank_kind zero l = refl
rank_kind (suc zero) l = refl
rank_kind (suc (suc zero)) l = refl
rank_kind (suc (suc (suc zero))) l = refl
rank_kind (suc (suc (suc (suc n)))) l = absurd (omega arith)

rank_zero : rank_of 0 ≡ 0
unfolding rank_of
rank_zero = refl

-- no idle end in a part and in what follows it, where the part begins what is said and something of its own depth or more follows
abbrev Tells : (n : ℕ) → Type 0
Tells n = (k : ℕ) (x : Nest Bytes n) → shaped Bytes n x ≡ true → rank_of k + n ≤ 3 → (rest : List Item) → rank_of (first_kind rest) + n ≤ 3
    → no_idle_ends (items n k x ++ rest)
    ≡ ((is_trimmed n x && not (idle Bytes is_empty n x && ltb (rank_of (first_kind rest)) (rank_of k))) && no_idle_ends rest)

not_and_false : (a b : Bool) → b ≡ false → not (a && b) ≡ true
not_and_false true b e = ap not e
not_and_false false b e = refl

and_assoc : (a b c : Bool) → ((a && b) && c) ≡ (a && (b && c))
and_assoc true b c = refl
and_assoc false b c = refl

-- where the next value begins no more than the part does, the part's own end is none
module _ (n : ℕ) (tells : Tells n) where
  tells_inner : (k : ℕ) (x : Nest Bytes n) → shaped Bytes n x ≡ true → rank_of k + n ≤ 3 → (rest : List Item) → rank_of (first_kind rest) + n ≤ 3
      → rank_of k ≤ rank_of (first_kind rest) → no_idle_ends (items n k x ++ rest) ≡ (is_trimmed n x && no_idle_ends rest)
  tells_inner k x s l rest r low =
      tells k x s l rest r
      ∙ ap (λ (b : Bool). (is_trimmed n x && b) && no_idle_ends rest)
      (not_and_false (idle Bytes is_empty n x) (ltb (rank_of (first_kind rest)) (rank_of k)) (le-ltb (rank_of (first_kind rest)) (rank_of k) low))
      ∙ ap (λ (b : Bool). b && no_idle_ends rest) (and-true (is_trimmed n x))

  -- the parts after the first
  tells_later : (y : Nest Bytes n) (ys : List (Nest Bytes n)) → shaped Bytes (suc n) (y ∷ ys) ≡ true → (rest : List Item)
      → rank_of (first_kind rest) + suc n ≤ 3
      → no_idle_ends (items (suc n) (kind_of n) (y ∷ ys) ++ rest) ≡ (none_last (is_trimmed n) (idle Bytes is_empty n) (y ∷ ys) && no_idle_ends rest)
  unfolding none_last
  tells_later y [] s rest r =
      let rank = rank_kind n (omega arith) in
      ap (λ (l : List Item). no_idle_ends (l ++ rest)) (flat_last kind_of item n (kind_of n) y)
      ∙ tells (kind_of n) y (shaped_first Bytes n y [] s) (omega (arith, rank)) rest (omega arith)
      ∙ ap (λ (b : Bool). (is_trimmed n y && not (idle Bytes is_empty n y && b)) && no_idle_ends rest)
      (lt-ltb (rank_of (first_kind rest)) (rank_of (kind_of n)) (omega (arith, rank)))
      ∙ ap (λ (b : Bool). (is_trimmed n y && not b) && no_idle_ends rest) (and-true (idle Bytes is_empty n y))
  tells_later y (z ∷ zs) s rest r =
      let rank = rank_kind n (omega arith) in
      let others = shaped_rest Bytes n y z zs s in
      let more : List Item = items (suc n) (kind_of n) (z ∷ zs) in
      let first : first_kind (more ++ rest) ≡ kind_of n = flat_first (suc n) (kind_of n) (z ∷ zs) others rest in
      ap (λ (l : List Item). no_idle_ends (l ++ rest)) (flat_next kind_of item n (kind_of n) y z zs)
      ∙ ap no_idle_ends (append_assoc (items n (kind_of n) y) more rest)
      ∙ tells_inner (kind_of n) y (shaped_first Bytes n y (z ∷ zs) s) (omega (arith, rank)) (more ++ rest) (omega (arith, rank, ap rank_of first)) (omega (arith, ap rank_of first))
      ∙ ap (λ (b : Bool). is_trimmed n y && b) (tells_later z zs others rest r)
      ∙ sym (and_assoc (is_trimmed n y) (none_last (is_trimmed n) (idle Bytes is_empty n) (z ∷ zs)) (no_idle_ends rest))

tells : (n : ℕ) → n ≤ 3 → Tells n
unfolding no_idle_ends is_idle_end is_idle none_last first_kind
tells zero m k v s l rest r = refl
tells (suc n) m k [] s l rest r = absurd (shaped_some Bytes n s)
tells (suc n) m k (x ∷ []) s l rest r =
    ap (λ (i : List Item). no_idle_ends (i ++ rest)) (flat_last kind_of item n k x)
    ∙ tells n (omega arith) k x (shaped_first Bytes n x [] s) (omega arith) rest (omega arith)
    ∙ ap (λ (b : Bool). (b && not (idle Bytes is_empty n x && ltb (rank_of (first_kind rest)) (rank_of k))) && no_idle_ends rest) (sym (and-true (is_trimmed n x)))
tells (suc n) m k (x ∷ y ∷ ys) s l rest r =
    let rank = rank_kind n (omega arith) in
    let others = shaped_rest Bytes n x y ys s in
    let more : List Item = items (suc n) (kind_of n) (y ∷ ys) in
    let first : first_kind (more ++ rest) ≡ kind_of n = flat_first (suc n) (kind_of n) (y ∷ ys) others rest in
    let own : Tells n = tells n (omega arith) in
    ap (λ (i : List Item). no_idle_ends (i ++ rest)) (flat_next kind_of item n k x y ys)
    ∙ ap no_idle_ends (append_assoc (items n k x) more rest)
    ∙ tells_inner n own k x (shaped_first Bytes n x (y ∷ ys) s) (omega arith) (more ++ rest) (omega (arith, rank, ap rank_of first)) (omega (arith, rank, ap rank_of first))
    ∙ ap (λ (b : Bool). is_trimmed n x && b) (tells_later n own y ys others rest r)
    ∙ sym (and_assoc (is_trimmed n x) (none_last (is_trimmed n) (idle Bytes is_empty n) (y ∷ ys)) (no_idle_ends rest))
    ∙ ap (λ (b : Bool). b && no_idle_ends rest) (sym (and-true (is_trimmed n x && none_last (is_trimmed n) (idle Bytes is_empty n) (y ∷ ys))))

-- ---- lists of segments

first_zero : (list : SegmentList) → Shaped list → rank_of (first_kind (list_of list)) ≡ 0
unfolding rank_of
first_zero list s = ap rank_of (kinds_list_of list s).first

one_segment : (g : List (List (List Bytes))) (rest : List Item) → shaped_segment g ≡ true → rank_of (first_kind rest) ≡ 0
    → no_idle_ends (items 3 0 g ++ rest) ≡ (is_trimmed 3 g && no_idle_ends rest)
unfolding shaped_segment
one_segment g rest s r =
    tells_inner 3 (tells 3 (omega arith)) 0 g s (omega (arith, rank_zero)) rest (omega arith) (omega (arith, rank_zero))

list_tells : (list : SegmentList) → Shaped list → no_idle_ends (list_of list) ≡ all (is_trimmed 3) list
unfolding Shaped all list_of gather no_idle_ends
list_tells [] s = refl
list_tells (g ∷ list) s =
    let good = and_left (shaped_segment g) (all shaped_segment list) s in
    let rest = and_right (shaped_segment g) (all shaped_segment list) s in
    ap (λ (i : List Item). no_idle_ends (i ++ list_of list)) (segment_flat g)
    ∙ one_segment g (list_of list) good (first_zero list rest)
    ∙ ap (λ (b : Bool). is_trimmed 3 g && b) (list_tells list rest)

list_trimmed : (list : SegmentList) → (trim_list list ≡ list) ↔ (all (is_trimmed 3) list ≡ true)
unfolding trim_list trim_segment trim_element trim_repeat all
list_trimmed [] = (λ e. refl, λ e. refl)
list_trimmed (g ∷ list) = (
  λ e.
      and_both (is_trimmed 3 g) (all (is_trimmed 3) list) ((trimmed_exactly 3 g).0 (head-eq_of_cons-eq e))
      ((list_trimmed list).0 (tail-eq_of_cons-eq e)),
  λ e.
      ap₂ ◌∷◌ ((trimmed_exactly 3 g).1 (and_left (is_trimmed 3 g) (all (is_trimmed 3) list) e))
      ((list_trimmed list).1 (and_right (is_trimmed 3 g) (all (is_trimmed 3) list) e)),
)

pub no_idle_ends_lem : (list : SegmentList) → Shaped list → (trim_list list ≡ list) ↔ (no_idle_ends (list_of list) ≡ true)
no_idle_ends_lem list s = (λ e. list_tells list s ∙ (list_trimmed list).0 e, λ e. (list_trimmed list).1 (sym (list_tells list s) ∙ e))
