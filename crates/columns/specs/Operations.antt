-- Request 2026-12: export and import, what they answer and what they leave in the buffers. Assumes nothing.
use Rattle.std.specs.Prelude.{ℕ, not, List, [], ◌∷◌, ◌++◌, length, replicate}
use Rattle.std.proofs.Math.Option.{Option}
use Rattle.lists.specs.Lists.{maybe}
use Rattle.refusals.specs.declared.Fault.TheVariants.{NoColumns}
use Rattle.refusals.specs.declared.Refusal.{Refusal}
use Rattle.refusals.specs.Refusals.{Stage, met, place_if, answering}
use Rattle.values.specs.Spelling.{Bytes}
use Rattle.stages.specs.Contents.{contents}
use Rattle.stages.specs.Stages.{stages}
use Rattle.answers.specs.Answers.{Answer, given, refused}
use Rattle.operations.specs.Judge.{short_for, stored_in, unless_refused}
use Rattle.operations.specs.ValueList.{list_of, list_bytes, list_table}
use Rattle.operations.specs.Write.{written_text, write_stages}
use Rattle.columns.specs.Lines.{columns_of}
use Rattle.columns.specs.Reading.{list_in, is_columns}

-- ---- export

-- the contents in columns
unfoldable pub export_text : List ℕ → List ℕ
export_text s = columns_of (contents s)

module _ (buffer s : List ℕ) where
  -- "Export has Judge's refusals, then 14"
  unfoldable pub export_refusal : Option Refusal
  export_refusal = answering (stages s ++ short_for (export_text s) buffer ∷ [])

  -- the length of the text, or a refusal
  unfoldable pub exports : Answer
  exports = maybe (given (length (export_text s) ∷ [])) refused export_refusal

  -- bytes beyond the text keep their values; "its buffer unchanged" where it is refused
  unfoldable pub export_buffer : List ℕ
  export_buffer = unless_refused export_refusal (stored_in buffer (export_text s)) buffer

-- ---- import

-- the bytes and the table of the list that the text gives
unfoldable pub bytes_read : List ℕ → Bytes
bytes_read columns = list_bytes (list_of (list_in columns))

unfoldable pub table_read : List ℕ → List ℕ
table_read columns = list_table (list_of (list_in columns))

-- "takes such text and six service bytes and writes an interchange"
unfoldable pub import_text : List ℕ → List ℕ → List ℕ
import_text service columns = written_text service (bytes_read columns) (table_read columns)

module _ (service columns output : List ℕ) where
  -- "24 at 0 for any other text; then the writer's for that value list"
  unfoldable pub import_stages : List Stage
  import_stages =
      met NoColumns (place_if (not (is_columns columns)) 0) ∷ write_stages service (bytes_read columns) (table_read columns) output

  unfoldable pub import_refusal : Option Refusal
  import_refusal = answering import_stages

  -- the length of the interchange, or a refusal
  unfoldable pub imports : Answer
  imports = maybe (given (length (import_text service columns) ∷ [])) refused import_refusal

  -- as the writer leaves it: bytes beyond the interchange keep their values; "output zero for each" refusal
  unfoldable pub import_output : List ℕ
  import_output = unless_refused import_refusal (stored_in output (import_text service columns)) (replicate (length output) 0)
