-- Request 2026-12: which texts import takes, what export refuses, and what comes back. Each field of `ColumnLaws` is a theorem; `proofs/Theorems.antt` proves the
-- record. Assumes nothing.
use Rattle.std.specs.Prelude.{ℕ, ◌+◌, ◌*◌, ◌≤◌, ◌<◌, ◌≡◌, true, ◌⊎◌, ◌↔◌, length, take, drop, replicate}
use mathlib.Core.List.{List, [], ◌∷◌, ◌++◌, Memᴰ}
use Rattle.std.proofs.Math.Option.{none, some}
use Rattle.nesting.specs.Nesting.{every}
use Rattle.refusals.specs.declared.Fault.TheVariants.{BadList, BufferShort, NoColumns}
use Rattle.refusals.specs.declared.Refusal.{Refusal}
use Rattle.refusals.specs.Limits.{most_numbers}
use Rattle.values.specs.Spelling.{Bytes, SegmentList}
use Rattle.stages.specs.Contents.{contents}
use Rattle.stages.specs.Stages.{refusal_of}
use Rattle.answers.specs.Answers.{given, refused}
use Rattle.operations.specs.Read.{value_bytes, value_table}
use Rattle.operations.specs.ValueList.{list_of, list_bytes, list_table, trim_list}
use Rattle.operations.specs.Write.{write_refusal}
use Rattle.spelling_laws.specs.Bodies.{Shaped}
use Rattle.columns.specs.Lines.{in_decimal, columns_of, fits_line}
use Rattle.columns.specs.Reading.{is_columns}
use Rattle.columns.specs.Operations.{export_text, export_refusal, exports, export_buffer, import_text, import_refusal, imports, import_output}

-- The text is that of the list: a "trimmed value list whose values hold no tab, carriage return or line feed".
pub record TextOf (list : SegmentList) (columns : Bytes) : Type 0 where
  -- it is a list of segments, each of them of one or more elements, and so on
  pub shaped : Shaped list
  pub trimmed : trim_list list ≡ list
  pub fits : every fits_line 4 list ≡ true
  pub text : columns_of list ≡ columns

-- What an import of what was exported of s leaves.
pub record ThereAndBack (buffer s service output : List ℕ) : Type 0 where
  -- the text stands in the front of the buffer,
  pub stored : take (length (export_text s)) (export_buffer buffer s) ≡ export_text s
  -- its import is not refused,
  pub taken : import_refusal service (export_text s) output ≡ none
  -- and what it writes, which stands in the front of the output, is accepted and has the same contents.
  pub written : take (length (import_text service (export_text s))) (import_output service (export_text s) output) ≡ import_text service (export_text s)
  pub accepted : refusal_of (import_text service (export_text s)) ≡ none
  pub same_contents : contents (import_text service (export_text s)) ≡ contents s

-- What an export of what was imported of a text leaves.
pub record BackAndThere (service columns output buffer : List ℕ) : Type 0 where
  -- the interchange stands in the front of the output,
  pub written : take (length (import_text service columns)) (import_output service columns output) ≡ import_text service columns
  -- its text is the one that was imported, and stands in the front of the buffer
  pub same_text : export_text (import_text service columns) ≡ columns
  pub stored : take (length columns) (export_buffer buffer (import_text service columns)) ≡ columns

pub record ColumnLaws : Type 0 where
  -- "in decimal without leading zeros": a digit is itself, and one behind a number that is not 0 is its last
  pub in_decimal_lem : (n d : ℕ) → d < 10
      → (in_decimal d ≡ (48 + d) ∷ []) × (0 < n → in_decimal (n * 10 + d) ≡ in_decimal n ++ (48 + d) ∷ [])
  -- a value holds "no tab, carriage return or line feed", and every other byte may stand in it
  pub fits_line_lem : (value : Bytes)
      → (fits_line value ≡ true) ↔ ((b : ℕ) → Memᴰ b value → ((b ≡ 9) ⊎ ((b ≡ 13) ⊎ (b ≡ 10))) → ⊥)
  -- "It accepts exactly the texts that export gives for some trimmed value list whose values hold no tab, carriage return or line feed."
  pub exactly : (columns : Bytes) → (is_columns columns ≡ true) ↔ ((list : SegmentList) × TextOf list columns)
  -- and no two such lists have the same text
  pub only : (columns : Bytes) (list other : SegmentList) → TextOf list columns → TextOf other columns → list ≡ other
  -- "24 at 0 for any other text", whatever the service bytes and the output
  pub any_other : (service columns output : List ℕ) → ((list : SegmentList) → TextOf list columns → ⊥)
      → import_refusal service columns output ≡ some (record { fault = NoColumns; place = 0 })
  -- "then the writer's for that value list"
  pub as_written : (service columns output : List ℕ) (list : SegmentList) → TextOf list columns
      → import_refusal service columns output ≡ write_refusal service (list_bytes (list_of list)) (list_table (list_of list)) output
  -- more than 32,000 lines, three numbers of the table each, of which it has 96,000 at most, are the writer's 15
  pub too_many : (service columns output : List ℕ) (list : SegmentList) → TextOf list columns → most_numbers < 3 * length (list_of list)
      → import_refusal service columns output ≡ some (record { fault = BadList; place = 0 })
  -- where nothing refuses it, the length of the interchange, which stands in the front of the output, of which the rest keeps its values
  pub imported : (service columns output : List ℕ) → import_refusal service columns output ≡ none
      → let text : List ℕ = import_text service columns in
      (imports service columns output ≡ given (length text ∷ [])) × (import_output service columns output ≡ text ++ drop (length text) output)
  -- "output zero for each"
  pub import_zero : (service columns output : List ℕ) {r : Refusal} → import_refusal service columns output ≡ some r
      → (imports service columns output ≡ refused r) × (import_output service columns output ≡ replicate (length output) 0)
  -- "Export has Judge's refusals, then 14", at the length that is needed,
  pub judged_first : (buffer s : List ℕ) {r : Refusal} → refusal_of s ≡ some r → export_refusal buffer s ≡ some r
  pub export_short : (buffer s : List ℕ) → refusal_of s ≡ none → length buffer < length (export_text s)
      → export_refusal buffer s ≡ some (record { fault = BufferShort; place = length (export_text s) })
  -- and no other: the text stands in the front of the buffer, of which the rest keeps its values
  pub exported : (buffer s : List ℕ) → refusal_of s ≡ none → length (export_text s) ≤ length buffer
      → (export_refusal buffer s ≡ none)
      × (exports buffer s ≡ given (length (export_text s) ∷ []))
      × (export_buffer buffer s ≡ export_text s ++ drop (length (export_text s)) buffer)
  -- "its buffer unchanged"
  pub export_unchanged : (buffer s : List ℕ) {r : Refusal} → export_refusal buffer s ≡ some r
      → (exports buffer s ≡ refused r) × (export_buffer buffer s ≡ buffer)
  -- what export gives is always taken
  pub exported_fits : (s : List ℕ) → refusal_of s ≡ none → TextOf (contents s) (export_text s)
  -- "Export then import, with any service bytes for which the writer doesn't refuse, gives the same contents."
  pub there_and_back : (buffer s service output : List ℕ) → export_refusal buffer s ≡ none
      → write_refusal service (value_bytes s) (value_table s) output ≡ none → ThereAndBack buffer s service output
  -- import then export gives the same text, where neither is refused
  pub back_and_there : (service columns output buffer : List ℕ) → import_refusal service columns output ≡ none
      → export_refusal buffer (import_text service columns) ≡ none → BackAndThere service columns output buffer
