-- A text is taken exactly where going on from line to line comes to its end. Assumes nothing.
use Rattle.std.specs.Prelude.{if◌then◌else◌, Option, None}
use Prim.Native.Nat.{ℕ, ◌+◌, ◌-◌, ◌≤◌, ◌<◌}
use mathlib.Core.Path.{◌≡◌, refl, sym, ap, subst, ◌∙◌}
use mathlib.Core.Bool.{Bool, true, false, not, ◌&&◌}
use mathlib.Core.List.{List, [], ◌∷◌, ◌++◌}
use native.Mathlib.Omega.{arith}
use lib.Dec.{eqb, ltb}
use lib.ListN.{length, drop, length-drop}
use borrow.Author.Tests.{ltb-false, le-ltb, not-true, eq-eqb, ne_eqb}
use Rattle.lists.specs.Lists.{is_empty, all}
use Rattle.lists.proofs.Texts.{and_left, and_right, and_both}
use Rattle.values.specs.Spelling.{Bytes, SegmentList}
use Rattle.operations.specs.ValueList.{Item, rank_of, list_of, segments_listed}
use Rattle.spelling_laws.specs.Bodies.{Shaped}
use Rattle.trimming_laws.specs.Kinds.{first_kind, Kinds}
use Rattle.trimming_laws.proofs.Nesting.{kinds_list_of, shaped_listed, list_of_listed}
use Rattle.round_trip_laws.proofs.Values.{all_list_of}
use Rattle.columns.specs.Lines.{line, heading, fits_line}
use Rattle.columns.specs.Reading.{list_in, is_columns}
use Rattle.column_laws.specs.declared.Position.{Position}
use Rattle.column_laws.specs.Positions.{at, lines_at}
use Rattle.column_laws.specs.Idle.{is_idle_end, no_idle_ends}
use Rattle.column_laws.specs.Columns.{TextOf}
use Rattle.column_laws.proofs.Idle.{no_idle_ends_lem}
use Rattle.column_laws.proofs.Listed.{list_is, exactly}
use Rattle.column_laws.proofs.Positions.{columns_lines}
use Rattle.column_walk.specs.declared.Line.{Line}
use Rattle.column_walk.specs.Walk.{first_place, position_at, value_of, item_at, Stands, Leading, Found, Rest}
use Rattle.column_walk.specs.Checking.{items_read, least_after, Kept, Taken, Passing}
use Rattle.column_walk.proofs.Walk.{value_length, rest_missing, rest_next, rest_back, rest_none, rest_end}

-- ---- empty ends

-- the least rank after a value
abbrev least_of : Item → ℕ
least_of x = if is_empty x.value then rank_of x.kind else 0

kept_next : (least : ℕ) (x : Item) (more : List Item) → Kept least (x ∷ more) → (least ≤ rank_of x.kind) × Kept (least_of x) more
unfolding first_kind no_idle_ends is_idle_end
kept_next least x more k =
    (k.low, record { low = step (is_empty x.value) here; none = and_right (not (is_idle_end x (first_kind more))) (no_idle_ends more) k.none })
  where
    here : not (is_empty x.value && ltb (rank_of (first_kind more)) (rank_of x.kind)) ≡ true
    here = and_left (not (is_idle_end x (first_kind more))) (no_idle_ends more) k.none

    step : (t : Bool) → not (t && ltb (rank_of (first_kind more)) (rank_of x.kind)) ≡ true → (if t then rank_of x.kind else 0) ≤ rank_of (first_kind more)
    step true h = ltb-false (rank_of (first_kind more)) (rank_of x.kind) (not-true (ltb (rank_of (first_kind more)) (rank_of x.kind)) h)
    step false h = omega arith

kept_back : (least : ℕ) (x : Item) (more : List Item) → least ≤ rank_of x.kind → Kept (least_of x) more → Kept least (x ∷ more)
unfolding first_kind no_idle_ends is_idle_end
kept_back least x more low k =
    record { low = low; none = and_both (not (is_idle_end x (first_kind more))) (no_idle_ends more) (step (is_empty x.value) k.low) k.none }
  where
    step : (t : Bool) → (if t then rank_of x.kind else 0) ≤ rank_of (first_kind more) → not (t && ltb (rank_of (first_kind more)) (rank_of x.kind)) ≡ true
    step true h = ap not (le-ltb (rank_of (first_kind more)) (rank_of x.kind) h)
    step false h = refl

-- a value is empty where it ends as it begins
empty_is : (s : List ℕ) (l : Line) → l.start ≤ l.end → l.end < length s → is_empty (value_of s l) ≡ eqb l.start l.end
unfolding is_empty
empty_is s l o i = step (value_of s l) (value_length s l o (omega arith))
  where
    step : (v : Bytes) → length v ≡ l.end - l.start → is_empty v ≡ eqb l.start l.end
    step [] e = sym (eq-eqb l.start l.end (omega (arith, e, o)))
    step (b ∷ bs) e = sym (ne_eqb l.start l.end (λ d. omega (arith, e, d)))

least_is : (s : List ℕ) (place : ℕ) (p : Position) (l : Line) → Stands s place p l → least_of (item_at s l) ≡ least_after l
least_is s place p l stands = ap (λ (t : Bool). if t then rank_of l.kind else 0) (empty_is s l stands.order stands.inside)

-- ---- line by line

pub passing_start : (s : List ℕ) → Passing s first_place (at 0 0 0 0) 0 0
passing_start s =
    record {
      forth = λ items t. (items, t.rest, record { low = omega arith; none = t.none });
      back = λ left r k. (left, record { rest = r; none = k.none }, omega arith);
    }

module _ (s : List ℕ) (place : ℕ) (p : Position) (count least : ℕ) (g : Passing s place p count least) where
  -- no line stands there
  pub passing_other : place < length s → {found : Option Line} → Found s place p found → found ≡ None → (items : List Item) → Taken s items → ⊥
  unfolding lines_at
  passing_other h f e items t =
      let (left, r, k) = g.forth items t in
      let none : Rest s place p [] = subst (Rest s place p) (rest_missing s place p left r f e) r in
      let end : drop place s ≡ [] = none.text in
      omega (arith, h, length-drop place s, ap length end)

  module _ (l : Line) (f : Leading s place p l) where
    -- what it begins would make the value before it an empty end
    pub passing_idle : rank_of l.kind < least → (items : List Item) → Taken s items → ⊥
    passing_idle e items t =
        let (left, r, k) = g.forth items t in
        let next = rest_next s place p l left r f in
        let kept : Kept least (item_at s l ∷ next.more) = subst (Kept least) next.is k in
        omega (arith, e, (kept_next least (item_at s l) next.more kept).0)

    pub passing_next : first_place ≤ place → least ≤ rank_of l.kind → Passing s (l.end + 1) l.position (count + 1) (least_after l)
    passing_next b low =
        let (leads, stands) = f in
        let same = least_is s place (position_at place p l.kind) l stands in
        record {
          forth =
              λ items t.
              let (left, r, k) = g.forth items t in
              let next = rest_next s place p l left r f in
              let kept : Kept least (item_at s l ∷ next.more) = subst (Kept least) next.is k in
              (next.more, next.rest, subst (λ (n : ℕ). Kept n next.more) same (kept_next least (item_at s l) next.more kept).1);
          back =
              λ left r k.
              let more : Kept (least_of (item_at s l)) left = subst (λ (n : ℕ). Kept n left) (sym same) k in
              let (items, t, n) = g.back (item_at s l ∷ left) (rest_back s place p l b leads stands left r) (kept_back least (item_at s l) left low more) in
              (items, t, omega (arith, n));
        }

  -- the end is reached
  module _ (b : first_place ≤ place) (h : length s ≤ place) where
    pub passing_done : least ≡ 0 → (items : List Item) × (Taken s items) × (length items ≡ count)
    unfolding no_idle_ends
    passing_done e =
        let (items, t, n) = g.back [] (rest_end s place p b h) (record { low = omega (arith, e); none = refl }) in
        (items, t, omega (arith, n))

    pub passing_end : (least ≡ 0 → ⊥) → (items : List Item) → Taken s items → ⊥
    unfolding first_kind rank_of
    passing_end e items t =
        let (left, r, k) = g.forth items t in
        let kept : Kept least [] = subst (Kept least) (rest_none s place p left r h) k in
        let low : least ≤ 0 = kept.low in
        e (omega (arith, low))

-- ---- the texts that are taken

-- the heading is passed
pub heading_dropped : (rest : Bytes) → drop first_place (heading ++ rest) ≡ rest
unfolding heading line
heading_dropped rest = refl

module _ (s : List ℕ) where
  module _ (items : List Item) (head : s ≡ heading ++ drop first_place s) (t : Taken s items) where
    kinds : Kinds items
    kinds = record { first = t.rest.first refl; highest = t.rest.kinds }

    abbrev list : SegmentList
    list = segments_listed items

    same : list_of list ≡ items
    same = list_of_listed items kinds

    text_of : TextOf list s
    unfolding position_at
    text_of =
        let shape : Shaped list = shaped_listed items kinds in
        record {
          shaped = shape;
          trimmed = (no_idle_ends_lem list shape).1 (ap no_idle_ends same ∙ t.none);
          fits = sym (all_list_of fits_line list) ∙ ap (all (λ l. fits_line l.value)) same ∙ t.rest.fits;
          text =
              columns_lines list shape
              ∙ ap (λ (is : List Item). heading ++ lines_at (at 0 0 0 0) is) same
              ∙ ap (λ (lines : Bytes). heading ++ lines) (sym t.rest.text)
              ∙ sym head;
        }

    pub taken_columns : is_columns s ≡ true
    taken_columns = (exactly s).1 (list, text_of)

    pub taken_items : items_read s ≡ items
    taken_items = ap list_of (list_is list s text_of) ∙ same

  -- a text in columns
  module _ (h : is_columns s ≡ true) where
    pub columns_text : TextOf (list_in s) s
    columns_text = let found = (exactly s).0 h in subst (λ (l : SegmentList). TextOf l s) (sym (list_is found.0 s found.1)) found.1

    lines_are : s ≡ heading ++ lines_at (at 0 0 0 0) (items_read s)
    lines_are = sym columns_text.text ∙ columns_lines (list_in s) columns_text.shaped

    pub columns_headed : s ≡ heading ++ drop first_place s
    columns_headed =
        lines_are
        ∙ ap (λ (t : Bytes). heading ++ t) (sym (ap (drop first_place) lines_are ∙ heading_dropped (lines_at (at 0 0 0 0) (items_read s))))

    pub columns_kinds : Kinds (items_read s)
    columns_kinds = kinds_list_of (list_in s) columns_text.shaped

    pub columns_rest : Rest s first_place (at 0 0 0 0) (items_read s)
    unfolding position_at
    columns_rest =
        record {
          behind = omega arith;
          text = ap (drop first_place) lines_are ∙ heading_dropped (lines_at (at 0 0 0 0) (items_read s));
          first = λ e. columns_kinds.first;
          kinds = columns_kinds.highest;
          fits = all_list_of fits_line (list_in s) ∙ columns_text.fits;
        }

    columns_taken : Taken s (items_read s)
    columns_taken = record { rest = columns_rest; none = (no_idle_ends_lem (list_in s) columns_text.shaped).0 columns_text.trimmed }

  pub none_taken : ((items : List Item) → Taken s items → ⊥) → is_columns s ≡ false
  none_taken n = step (is_columns s) refl
    where
      step : (t : Bool) → is_columns s ≡ t → is_columns s ≡ false
      step true e = absurd (n (items_read s) (columns_taken e))
      step false e = e
