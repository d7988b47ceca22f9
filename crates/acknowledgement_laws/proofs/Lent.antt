-- A lent list that is not refused is one element: its records are those of the element, and it has what an element should.
-- Assumes nothing.
use Rattle.std.specs.Prelude.{if◌then◌else◌}
use Prim.Native.Nat.{ℕ, ◌≤◌, ◌<◌}
use mathlib.Core.Path.{◌≡◌, refl, sym, ap, ap₂, ◌∙◌}
use mathlib.Core.Bool.{Bool, true, false, not, ◌&&◌, ◌||◌, true≢false, false≢true}
use mathlib.Core.List.{List, [], ◌∷◌, ◌++◌, map, append-nil}
use lib.ListN.{drop}
use lib.Dec.{eqb, leb}
use native.Mathlib.Omega.{arith}
use borrow.Author.Tests.{leb-false, lt-leb, not-true, not-false}
use Rattle.lists.specs.Lists.{is_empty, any, all, onto, cut, gather}
use Rattle.lists.proofs.Texts.{and_left, and_right, or_none_left, or_none_right}
use Rattle.nesting.specs.Nesting.{shaped}
use Rattle.nesting_laws.proofs.Shape.{shaped_first}
use Rattle.values.specs.Spelling.{Bytes}
use Rattle.operations.specs.ValueList.{Item, Entry, entries, value_in, listed_in, rank_of, closed, closes, repeats_listed, elements_listed, segments_listed, list_element, list_segment, list_of}
use Rattle.operations.specs.Write.{bad_list}
use Rattle.spelling_laws.specs.Bodies.{shaped_segment, Shaped}
use Rattle.trimming_laws.specs.Kinds.{Kinds}
use Rattle.trimming_laws.proofs.Nesting.{shaped_listed, list_of_listed}
use Rattle.round_trip_laws.proofs.Values.{kinds_sound}
use Rattle.acknowledgements.specs.Lent.{LentList, element_lent, is_bad_lent}

-- ---- one element

-- the value begins neither a segment nor an element
abbrev pub goes_on : Item → Bool
goes_on l = not (leb l.kind 1)

-- so what stands before it ends neither
not_closing : (r : ℕ) → r ≤ 1 → (l : Item) (value : Bytes) → goes_on l ≡ true → closes r (record { kind = l.kind; value = value }) ≡ false
unfolding closes rank_of
not_closing r h l value e =
    let high : 1 < l.kind = leb-false l.kind 1 (not-true (leb l.kind 1) e) in
    step (leb l.kind 0) (leb l.kind 1) (eqb l.kind 3) (lt-leb l.kind 0 (omega arith)) (lt-leb l.kind 1 (omega arith))
  where
    step : (a b d : Bool) → a ≡ false → b ≡ false → leb (if a then 0 else (if b then 1 else (if d then 2 else 3))) r ≡ false
    step true b d p q = absurd (true≢false p)
    step false true d p q = absurd (true≢false q)
    step false false true p q = lt-leb 2 r (omega arith)
    step false false false p q = lt-leb 3 r (omega arith)

-- all of them are one piece
one_piece : (r : ℕ) → r ≤ 1 → (l : Item) (ls : List Item) → all goes_on ls ≡ true → cut (closes r) (closed (l ∷ ls)) ≡ closed (l ∷ ls) ∷ []
unfolding cut onto closed all
one_piece r h l [] e = step (closes r (record { kind = 0; value = l.value }))
  where
    last : Item
    last = record { kind = 0; value = l.value }

    step : (b : Bool) → onto b last [] ≡ (last ∷ []) ∷ []
    step true = refl
    step false = refl
one_piece r h l (m ∷ ms) e =
    ap₂ (λ (b : Bool) (pieces : List (List Item)). onto b (record { kind = m.kind; value = l.value }) pieces)
    (not_closing r h m l.value (and_left (goes_on m) (all goes_on ms) e))
    (one_piece r h m ms (and_right (goes_on m) (all goes_on ms) e))

one_element : (l : Item) (ls : List Item) → all goes_on ls ≡ true
    → segments_listed (l ∷ ls) ≡ (repeats_listed (closed (l ∷ ls)) ∷ []) ∷ []
unfolding segments_listed
one_element l ls e =
    ap (map elements_listed) (one_piece 0 (omega arith) l ls e)
    ∙ ap (λ (pieces : List (List Item)). map repeats_listed pieces ∷ []) (one_piece 1 (omega arith) l ls e)

-- ---- a lent list

none_any : (es : List Entry) → any (λ e. leb e.kind 1) es ≡ false → (bytes : Bytes)
    → all goes_on (map (λ e. record { kind = e.kind; value = value_in bytes e }) es) ≡ true
unfolding any all
none_any [] h bytes = refl
none_any (e ∷ es) h bytes =
    ap₂ (λ (a b : Bool). not a && b)
    (or_none_left (leb e.kind 1) (any (λ e. leb e.kind 1) es) h)
    (none_any es (or_none_right (leb e.kind 1) (any (λ e. leb e.kind 1) es) h) bytes)

empty_none : (ns : List ℕ) → is_empty ns ≡ true → ns ≡ []
unfolding is_empty
empty_none [] h = refl
empty_none (n ∷ ns) h = absurd (false≢true h)

-- What holds of a lent list that is not refused: its records are a first one and others that go on in its element.
pub record Elementary (l : LentList) : Type 0 where
  pub sound : bad_list l.bytes l.table ≡ []
  pub first : Item
  pub others : List Item
  pub records : listed_in l.bytes l.table ≡ first ∷ others
  pub within : all goes_on others ≡ true

module _ (l : LentList) (h : is_bad_lent l ≡ false) where
  abbrev bad : Bool
  bad = not (is_empty (bad_list l.bytes l.table))

  abbrev later : Bool
  later = any (λ e. leb e.kind 1) (drop 1 (entries l.table))

  front : (is_empty (entries l.table) || bad) ≡ false
  unfolding is_bad_lent
  front = or_none_left (is_empty (entries l.table) || bad) later h

  unrefused : bad_list l.bytes l.table ≡ []
  unrefused = empty_none (bad_list l.bytes l.table) (not-false (is_empty (bad_list l.bytes l.table)) (or_none_right (is_empty (entries l.table)) bad front))

  pub elementary : Elementary l
  unfolding listed_in is_bad_lent is_empty
  elementary = step (entries l.table) refl
    where
      item : Entry → Item
      item e = record { kind = e.kind; value = value_in l.bytes e }

      step : (es : List Entry) → entries l.table ≡ es → Elementary l
      step [] d = absurd (true≢false (sym (ap is_empty d) ∙ or_none_left (is_empty (entries l.table)) bad front))
      step (e ∷ es) d =
          record {
            sound = unrefused;
            first = item e;
            others = map item es;
            records = ap (map item) d;
            within = none_any es (ap (λ (rest : List Entry). any (λ e. leb e.kind 1) (drop 1 rest)) (sym d) ∙ or_none_right (is_empty (entries l.table) || bad) later h) l.bytes;
          }

  one_listed : segments_listed (listed_in l.bytes l.table) ≡ (element_lent l ∷ []) ∷ []
  unfolding element_lent
  one_listed =
      let e = elementary in
      ap segments_listed e.records
      ∙ one_element e.first e.others e.within
      ∙ ap (λ (items : List Item). (repeats_listed (closed items) ∷ []) ∷ []) (sym e.records)

  kinds : Kinds (listed_in l.bytes l.table)
  kinds = kinds_sound l.bytes l.table unrefused

  -- the records of the list are those of its element,
  pub lent_records : list_element 0 (element_lent l) ≡ listed_in l.bytes l.table
  unfolding list_of list_segment gather
  lent_records =
      sym (append-nil (list_element 0 (element_lent l))) ∙ sym (append-nil (list_element 0 (element_lent l) ++ []))
      ∙ ap list_of (sym one_listed)
      ∙ list_of_listed (listed_in l.bytes l.table) kinds

  -- which has a repeat, and each repeat a value
  pub lent_shaped : shaped Bytes 2 (element_lent l) ≡ true
  unfolding Shaped shaped_segment all is_empty
  lent_shaped =
      let listed = ap (λ (list : List (List (List (List Bytes)))). all shaped_segment list) (sym one_listed) ∙ shaped_listed (listed_in l.bytes l.table) kinds in
      shaped_first Bytes 2 (element_lent l) [] (shaped_first Bytes 3 (element_lent l ∷ []) [] listed)
