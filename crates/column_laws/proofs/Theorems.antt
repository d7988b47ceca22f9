-- The theorems of this crate. What import writes is what Write writes of the list that the text gives, so that what holds of a written text
-- holds of it. Assumes nothing.
use Rattle.std.specs.Prelude.{if◌then◌else◌}
use Prim.Native.Nat.{ℕ, ◌*◌, ◌<◌}
use mathlib.Core.Path.{◌≡◌, refl, sym, ap, ap₂, ◌∙◌}
use mathlib.Core.Bool.{Bool, true, false, not}
use mathlib.Core.List.{List, [], ◌∷◌}
use mathlib.Core.Logic.{inl}
use mathlib.Core.Option.{Option, none, some, some-ne-none}
use native.Mathlib.Omega.{arith}
use lib.ListN.{length, take, drop, replicate}
use lib.Seq.{take-append_seam}
use Rattle.refusals.specs.declared.Fault.TheVariants.{BadList, NoColumns}
use Rattle.refusals.specs.declared.Refusal.{Refusal}
use Rattle.refusals.specs.Refusals.{Stage, answering}
use Rattle.refusals.specs.Limits.{most_numbers}
use Rattle.refusals.proofs.Stages.{one_place, answering_append, or_else_neither}
use Rattle.values.specs.Spelling.{Bytes, SegmentList}
use Rattle.stages.specs.Contents.{contents}
use Rattle.stages.specs.Stages.{stages, refusal_of}
use Rattle.operations.specs.Judge.{short_for, stored_in, unless_refused}
use Rattle.operations.specs.Read.{value_bytes, value_table}
use Rattle.operations.specs.ValueList.{list_of, list_bytes, list_table, listed_in, segments_listed, trim_list}
use Rattle.operations.specs.Write.{written_text, write_stages, write_refusal}
use Rattle.operations.proofs.Words.{write_fifteen}
use Rattle.trimming_laws.proofs.Tables.{segments_table, list_table_length}
use Rattle.round_trip_laws.specs.Trips.{list_given}
use Rattle.round_trip_laws.proofs.Theorems.{written_accepted, written_contents}
use Rattle.round_trip_laws.proofs.Written.{list_read_lem}
use Rattle.columns.specs.Lines.{columns_of}
use Rattle.columns.specs.Reading.{list_in, is_columns}
use Rattle.columns.specs.Operations.{export_text, export_refusal, export_buffer, bytes_read, table_read, import_text, import_stages, import_refusal, import_output}
use Rattle.columns.proofs.Decimals.{in_decimal_lem}
use Rattle.columns.proofs.Answered.{export_refused, import_refused, import_given}
use Rattle.columns.proofs.Words.{fits_line_lem, judged_first, export_short, exported}
use Rattle.column_laws.specs.Columns.{TextOf, ThereAndBack, BackAndThere, ColumnLaws}
use Rattle.column_laws.proofs.Listed.{list_shaped, list_is, exactly, contents_text}

-- ---- import, stage by stage

module _ (service columns output : List ℕ) where
  abbrev behind : Option Refusal
  behind = write_refusal service (bytes_read columns) (table_read columns) output

  -- 24, then the writer's
  import_answers : {t : Bool} → is_columns columns ≡ t
      → import_refusal service columns output ≡ (if not t then some (record { fault = NoColumns; place = 0 }) else behind)
  unfolding import_refusal import_stages write_refusal
  import_answers h = one_place NoColumns 0 (write_stages service (bytes_read columns) (table_read columns) output) (ap not h)

  -- where nothing is refused, the text is taken and the writer refuses nothing
  import_passed : import_refusal service columns output ≡ none → (is_columns columns ≡ true) × (behind ≡ none)
  import_passed h = step (is_columns columns) refl
    where
      step : (t : Bool) → is_columns columns ≡ t → (is_columns columns ≡ true) × (behind ≡ none)
      step true e = (e, sym (import_answers e) ∙ h)
      step false e = absurd (some-ne-none (record { fault = NoColumns; place = 0 }) (sym (import_answers e) ∙ h))

  any_other : ((list : SegmentList) → TextOf list columns → ⊥) → import_refusal service columns output ≡ some (record { fault = NoColumns; place = 0 })
  any_other without = step (is_columns columns) refl
    where
      step : (t : Bool) → is_columns columns ≡ t → import_refusal service columns output ≡ some (record { fault = NoColumns; place = 0 })
      step true e = absurd (without ((exactly columns).0 e).0 ((exactly columns).0 e).1)
      step false e = import_answers e

  as_written : (list : SegmentList) → TextOf list columns
      → import_refusal service columns output ≡ write_refusal service (list_bytes (list_of list)) (list_table (list_of list)) output
  unfolding bytes_read table_read
  as_written list t =
      import_answers ((exactly columns).1 (list, t))
      ∙ ap (λ (l : SegmentList). write_refusal service (list_bytes (list_of l)) (list_table (list_of l)) output) (list_is list columns t)

  -- what is left where nothing is refused
  import_stored : import_refusal service columns output ≡ none
      → take (length (import_text service columns)) (import_output service columns output) ≡ import_text service columns
  unfolding import_output unless_refused stored_in
  import_stored h =
      ap (λ (o : Option Refusal). take (length (import_text service columns)) (unless_refused o (stored_in output (import_text service columns)) (replicate (length output) 0))) h
      ∙ take-append_seam (import_text service columns) (drop (length (import_text service columns)) output)

-- a table over 96,000 numbers, three for a line, is refused at 0, whatever else is
too_many : (service columns output : List ℕ) (list : SegmentList) → TextOf list columns → most_numbers < 3 * length (list_of list)
    → import_refusal service columns output ≡ some (record { fault = BadList; place = 0 })
too_many service columns output list t h =
    let bytes : Bytes = list_bytes (list_of list) in
    let table : List ℕ = list_table (list_of list) in
    as_written service columns output list t
    ∙ write_fifteen service bytes table output 0
    (inl (inl (omega (arith, list_table_length (list_of list))), refl), λ q k. omega arith)

-- ---- export

module _ (buffer s : List ℕ) where
  abbrev last : List Stage
  last = short_for (export_text s) buffer ∷ []

  -- an export that is not refused had an accepted input
  export_accepted : export_refusal buffer s ≡ none → refusal_of s ≡ none
  unfolding export_refusal refusal_of
  export_accepted h = (or_else_neither (answering (stages s)) (answering last) (sym (answering_append (stages s) last) ∙ h)).0

  export_stored : export_refusal buffer s ≡ none → take (length (export_text s)) (export_buffer buffer s) ≡ export_text s
  unfolding export_buffer unless_refused stored_in
  export_stored h =
      ap (λ (o : Option Refusal). take (length (export_text s)) (unless_refused o (stored_in buffer (export_text s)) buffer)) h
      ∙ take-append_seam (export_text s) (drop (length (export_text s)) buffer)

-- ---- there and back

module _ (s : List ℕ) (accepted : refusal_of s ≡ none) where
  -- what is read of an export is what Read reads
  bytes_same : bytes_read (export_text s) ≡ value_bytes s
  unfolding bytes_read value_bytes
  bytes_same = ap (λ (l : SegmentList). list_bytes (list_of l)) (list_is (contents s) (export_text s) (contents_text s accepted))

  table_same : table_read (export_text s) ≡ value_table s
  unfolding table_read value_table
  table_same = ap (λ (l : SegmentList). list_table (list_of l)) (list_is (contents s) (export_text s) (contents_text s accepted))

  text_same : (service : List ℕ) → import_text service (export_text s) ≡ written_text service (value_bytes s) (value_table s)
  unfolding import_text
  text_same service = ap₂ (written_text service) bytes_same table_same

  -- and gives the contents back
  given_back : trim_list (segments_listed (listed_in (value_bytes s) (value_table s))) ≡ contents s
  unfolding list_given
  given_back = list_read_lem s accepted

there_and_back : (buffer s service output : List ℕ) → export_refusal buffer s ≡ none
    → write_refusal service (value_bytes s) (value_table s) output ≡ none → ThereAndBack buffer s service output
unfolding value_bytes value_table
there_and_back buffer s service output e w =
    let accepted : refusal_of s ≡ none = export_accepted buffer s e in
    let taken : import_refusal service (export_text s) output ≡ none = as_written service (export_text s) output (contents s) (contents_text s accepted) ∙ w in
    record {
      stored = export_stored buffer s e;
      taken = taken;
      written = import_stored service (export_text s) output taken;
      accepted = ap refusal_of (text_same s accepted service) ∙ written_accepted service (value_bytes s) (value_table s) output w;
      same_contents =
          ap contents (text_same s accepted service)
          ∙ written_contents service (value_bytes s) (value_table s) output w
          ∙ given_back s accepted;
    }

-- ---- back and there

-- the bytes and the table that are read give the list back
list_back : (columns : List ℕ) → segments_listed (listed_in (bytes_read columns) (table_read columns)) ≡ list_in columns
unfolding bytes_read table_read
list_back columns = segments_table (list_in columns) (list_shaped columns)

same_text : (service columns output : List ℕ) → import_refusal service columns output ≡ none → export_text (import_text service columns) ≡ columns
unfolding export_text import_text
same_text service columns output h =
    let (taken, quiet) = import_passed service columns output h in
    let found = (exactly columns).0 taken in
    let list : SegmentList = found.0 in
    let t : TextOf list columns = found.1 in
    ap columns_of
    (written_contents service (bytes_read columns) (table_read columns) output quiet
    ∙ ap trim_list (list_back columns ∙ list_is list columns t)
    ∙ t.trimmed)
    ∙ t.text

back_and_there : (service columns output buffer : List ℕ) → import_refusal service columns output ≡ none
    → export_refusal buffer (import_text service columns) ≡ none → BackAndThere service columns output buffer
back_and_there service columns output buffer h e =
    let text : List ℕ = import_text service columns in
    let same : export_text text ≡ columns = same_text service columns output h in
    record {
      written = import_stored service columns output h;
      same_text = same;
      stored = ap (λ (t : List ℕ). take (length t) (export_buffer buffer text)) (sym same) ∙ export_stored buffer text e ∙ same;
    }

pub column_laws : ColumnLaws
column_laws =
    record {
      in_decimal_lem = in_decimal_lem;
      fits_line_lem = fits_line_lem;
      exactly = exactly;
      only = λ columns list other t u. sym (list_is list columns t) ∙ list_is other columns u;
      any_other = any_other;
      as_written = as_written;
      too_many = too_many;
      imported = import_given;
      import_zero = import_refused;
      judged_first = judged_first;
      export_short = export_short;
      exported = exported;
      export_unchanged = export_refused;
      exported_fits = contents_text;
      there_and_back = there_and_back;
      back_and_there = back_and_there;
    }
