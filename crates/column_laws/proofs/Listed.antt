-- The list that a text gives has the shape of a list of segments; it is the list whose text it is, where there is one. The contents of an
-- accepted interchange are such a list. Assumes nothing.
use Prim.Native.Nat.{ℕ, ◌≤◌}
use mathlib.Core.Path.{◌≡◌, refl, sym, ap, ap₂, subst, ◌∙◌}
use mathlib.Core.Bool.{Bool, true, false, not, ◌&&◌, ◌||◌}
use mathlib.Core.List.{List, [], ◌∷◌, map}
use mathlib.Core.Logic.{◌↔◌}
use mathlib.Core.Option.{none}
use native.Mathlib.Omega.{arith}
use lib.Dec.{leb}
use borrow.Author.Tests.{ne_eqb}
use Rattle.lists.specs.Lists.{same, member, all, beyond, cut}
use Rattle.lists.proofs.Texts.{and_left, and_right, and_both, same_eq, same_refl}
use Rattle.nesting.specs.Nesting.{every}
use Rattle.values.specs.Spelling.{Bytes, SegmentList}
use Rattle.stages.specs.Contents.{contents}
use Rattle.stages.specs.Stages.{refusal_of}
use Rattle.operations.specs.ValueList.{Item, closed, segments_listed, trim_list}
use Rattle.spelling_laws.specs.Bodies.{Shaped}
use Rattle.trimming_laws.specs.Kinds.{first_kind, kinds_up_to3}
use Rattle.trimming_laws.proofs.Nesting.{listed_list_of, shaped_listed}
use Rattle.trimming_laws.proofs.Trimmed.{trim_list_again, trim_list_shaped}
use Rattle.normal_form_laws.proofs.Trimmed.{contents_trimmed}
use Rattle.normal_form_laws.proofs.Normal.{contents_shaped}
use Rattle.acceptance_laws.proofs.Acceptance.{allowed_exactly}
use Rattle.acceptance_laws.proofs.Breakless.{contents_pass}
use Rattle.columns.specs.Lines.{tab, carriage_return, line_feed, columns_of, fits_line}
use Rattle.columns.specs.Reading.{ends_line, column, is_zero, kind_read, item_read, items_in, list_in, is_columns}
use Rattle.columns.specs.Operations.{export_text}
use Rattle.column_laws.specs.Columns.{TextOf}
use Rattle.column_laws.proofs.Columned.{kind_by, item, columns_items}

-- ---- its shape

-- no line is read as of another kind than 0 to 3
kind_read_lem : (bytes : Bytes) → leb (kind_read bytes) 3 ≡ true
unfolding kind_read
kind_read_lem bytes = step (is_zero (column 1 bytes)) (is_zero (column 2 bytes)) (is_zero (column 3 bytes))
  where
    step : (a b c : Bool) → leb (kind_by a b c) 3 ≡ true
    step a b false = refl
    step a false true = refl
    step false true true = refl
    step true true true = refl

kinds_read : (lines : List Bytes) → kinds_up_to3 (map item_read lines) ≡ true
unfolding kinds_up_to3 all item_read
kinds_read [] = refl
kinds_read (l ∷ ls) = and_both (leb (kind_read l) 3) (kinds_up_to3 (map item_read ls)) (kind_read_lem l) (kinds_read ls)

-- of which kind the first one is does not matter
first_any : (i : Item) (is : List Item) → segments_listed (i ∷ is) ≡ segments_listed (item 0 i.value ∷ is)
unfolding segments_listed closed
first_any i [] = refl
first_any i (j ∷ js) = refl

items_shaped : (items : List Item) → kinds_up_to3 items ≡ true → Shaped (segments_listed items)
unfolding kinds_up_to3 all first_kind
items_shaped [] h = shaped_listed [] (record { first = refl; highest = h })
items_shaped (i ∷ is) h =
    subst Shaped (sym (first_any i is))
    (shaped_listed (item 0 i.value ∷ is) (record { first = refl; highest = and_right (leb i.kind 3) (kinds_up_to3 is) h }))

pub list_shaped : (columns : Bytes) → Shaped (list_in columns)
unfolding list_in items_in
list_shaped columns =
    let lines : List Bytes = cut ends_line (beyond ends_line columns) in
    trim_list_shaped (segments_listed (map item_read lines)) (items_shaped (map item_read lines) (kinds_read lines))

-- ---- the list whose text it is

pub list_is : (list : SegmentList) (columns : Bytes) → TextOf list columns → list_in columns ≡ list
unfolding list_in
list_is list columns t =
    ap (λ (text : Bytes). trim_list (segments_listed (items_in (beyond ends_line text)))) (sym t.text)
    ∙ ap (λ (items : List Item). trim_list (segments_listed items)) (columns_items list t.fits)
    ∙ ap trim_list (listed_list_of list t.shaped)
    ∙ t.trimmed

list_trimmed : (columns : Bytes) → trim_list (list_in columns) ≡ list_in columns
unfolding list_in
list_trimmed columns = trim_list_again (segments_listed (items_in (beyond ends_line columns)))

pub exactly : (columns : Bytes) → (is_columns columns ≡ true) ↔ ((list : SegmentList) × TextOf list columns)
unfolding is_columns
exactly columns = (there, λ k. back k.0 k.1)
  where
    there : is_columns columns ≡ true → (list : SegmentList) × TextOf list columns
    there h = (
      list_in columns,
      record {
        shaped = list_shaped columns;
        trimmed = list_trimmed columns;
        fits = and_right (same (columns_of (list_in columns)) columns) (every fits_line 4 (list_in columns)) h;
        text = same_eq (columns_of (list_in columns)) columns (and_left (same (columns_of (list_in columns)) columns) (every fits_line 4 (list_in columns)) h);
      },
    )

    back : (list : SegmentList) → TextOf list columns → is_columns columns ≡ true
    back list t =
        ap (λ (l : SegmentList). same (columns_of l) columns && every fits_line 4 l) (list_is list columns t)
        ∙ and_both (same (columns_of list) columns) (every fits_line 4 list) (ap (λ (x : Bytes). same x columns) t.text ∙ same_refl columns) t.fits

-- ---- contents

-- a byte of 32 or above is none of the three
printable_fits : (b : ℕ) → 32 ≤ b → not (member b (tab ∷ carriage_return ∷ line_feed ∷ [])) ≡ true
unfolding member
printable_fits b h =
    ap₂ (λ (x : Bool) (y : Bool). not (x || y)) (ne_eqb b 9 (λ e. omega arith))
    (ap₂ (λ (x y : Bool). x || (y || false)) (ne_eqb b 13 (λ e. omega arith)) (ne_eqb b 10 (λ e. omega arith)))

pub contents_text : (s : List ℕ) → refusal_of s ≡ none → TextOf (contents s) (export_text s)
unfolding export_text fits_line
contents_text s accepted =
    record {
      shaped = contents_shaped s accepted;
      trimmed = contents_trimmed s;
      fits = contents_pass s ((allowed_exactly s).0 accepted) (λ b. not (member b (tab ∷ carriage_return ∷ line_feed ∷ []))) printable_fits;
      text = refl;
    }
