-- Import's first and last words: the list that a text gives passes 15 but for its length, and 24 comes before what Write answers for it.
-- Assumes nothing.
use Rattle.std.specs.Option.{ok_or}
use Rattle.std.specs.Prelude.{Option as Perhaps, Some, None, Ok, Err}
use Prim.Native.Nat.{ℕ, ◌≤◌, ◌<◌}
use mathlib.Core.Path.{◌≡◌, refl, sym, ap, ◌∙◌}
use mathlib.Core.Bool.{Bool, true, false, not, ◌&&◌, ◌||◌, true≢false}
use mathlib.Core.List.{List, [], ◌∷◌}
use mathlib.Core.Option.{some}
use lib.Dec.{eqb}
use lib.ListN.{length}
use borrow.Author.Tests.{not-true}
use Rattle.lists.specs.Lists.{all, at, maybe, member}
use Rattle.lists.proofs.Texts.{and_left, and_right, and_both}
use Rattle.characters.specs.Characters.{is_break}
use Rattle.refusals.specs.declared.Fault.TheVariants.{BadList, NoColumns}
use Rattle.refusals.specs.declared.Refusal.{Refusal}
use Rattle.refusals.specs.Limits.{most_bytes}
use Rattle.values.specs.Spelling.{Bytes, leads_break}
use Rattle.operations.specs.ValueList.{Item, list_bytes, list_table}
use Rattle.operations.specs.Write.{bad_list, write_refusal}
use Rattle.trimming_laws.specs.Kinds.{starts_well, unbroken_starts}
use Rattle.trimming_laws.proofs.Tables.{list_table_sound}
use Rattle.write.specs.Writing.{Passed}
use Rattle.write.proofs.Writing.{left}
use Rattle.write.proofs.Listed.{many_failed, records_met, records_passed}
use Rattle.columns.specs.Lines.{tab, carriage_return, line_feed, fits_line}
use Rattle.columns.specs.Reading.{list_in, is_columns}
use Rattle.columns.specs.Operations.{bytes_read, table_read, import_refusal}
use Rattle.column_laws.proofs.Listed.{exactly}
use Rattle.column_laws.proofs.Theorems.{column_laws}
use Rattle.column_walk.specs.Checking.{items_read}
use Rattle.column_walk.proofs.Checking.{columns_text, columns_kinds, columns_rest}

-- ---- 15

-- a value that fits in a line begins with no break
begins_well : (value : Bytes) → fits_line value ≡ true → leads_break value ≡ false
unfolding fits_line all leads_break maybe at is_break member
begins_well [] h = refl
begins_well (b ∷ bs) h =
    step (eqb b tab) (eqb b carriage_return) (eqb b line_feed)
    (and_left (not (member b (tab ∷ carriage_return ∷ line_feed ∷ []))) (all (λ x. not (member x (tab ∷ carriage_return ∷ line_feed ∷ []))) bs) h)
  where
    step : (x y z : Bool) → not (x || (y || (z || false))) ≡ true → (y || (z || false)) ≡ false
    step true y z k = absurd (true≢false (sym k))
    step false y z k = not-true (y || (z || false)) k

all_well : (items : List Item) → all (λ l. fits_line l.value) items ≡ true → unbroken_starts items ≡ true
unfolding all unbroken_starts
all_well [] h = refl
all_well (l ∷ ls) h =
    and_both (starts_well l) (unbroken_starts ls)
    (step (eqb l.kind 0) (begins_well l.value (and_left (fits_line l.value) (all (λ x. fits_line x.value) ls) h)))
    (all_well ls (and_right (fits_line l.value) (all (λ x. fits_line x.value) ls) h))
  where
    step : (t : Bool) → leads_break l.value ≡ false → not (t && leads_break l.value) ≡ true
    step true e = ap not e
    step false e = refl

-- lines are never refused but for their number
pub lines_good : (s : List ℕ) → is_columns s ≡ true → length (items_read s) ≤ most_bytes → bad_list (list_bytes (items_read s)) (list_table (items_read s)) ≡ []
lines_good s taken few =
    list_table_sound (items_read s) (columns_kinds s taken) (all_well (items_read s) (columns_rest s taken).fits) few

-- ---- 24

module _ (service s output : List ℕ) where
  pub other_failed : is_columns s ≡ false → import_refusal service s output ≡ some (record { fault = NoColumns; place = 0 })
  other_failed e = column_laws.any_other service s output (λ list t. true≢false (sym ((exactly s).1 (list, t)) ∙ e))

  pub columns_met : is_columns s ≡ true → import_refusal service s output ≡ left service (bytes_read s) (table_read s) output 0
  unfolding write_refusal bytes_read list_bytes table_read list_table
  columns_met e = column_laws.as_written service s output (list_in s) (columns_text s e)

  -- 15 passes its lines
  pub import_begun : is_columns s ≡ true → length (items_read s) ≤ most_bytes → import_refusal service s output ≡ left service (bytes_read s) (table_read s) output 1
  unfolding bytes_read table_read
  import_begun e few = columns_met e ∙ records_met (items_read s) service output (lines_good s e few)

  -- it refuses their number
  pub import_many : is_columns s ≡ true → most_bytes < length (items_read s) → import_refusal service s output ≡ some (record { fault = BadList; place = 0 })
  unfolding bytes_read table_read
  import_many e many = columns_met e ∙ many_failed (items_read s) service output many

  pub import_passed : is_columns s ≡ true → length (items_read s) ≤ most_bytes → Passed (bytes_read s) (table_read s)
  unfolding bytes_read table_read
  import_passed e few = records_passed (items_read s) (lines_good s e few)

-- what a count that was told or refused says
pub count_told : (o : Perhaps ℕ) (r : Refusal) {n : ℕ} → ok_or o r ≡ Ok n → o ≡ Some n
count_told None r e = cc
count_told (Some n) r e = cc

pub count_failed : (o : Perhaps ℕ) (r : Refusal) {q : Refusal} → ok_or o r ≡ Err q → (o ≡ None) × (r ≡ q)
count_failed None r e = (refl, cc)
count_failed (Some n) r e = cc
