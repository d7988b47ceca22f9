-- Paper 01, "Operations": Read into a byte buffer and a table. Assumes nothing.
use Rattle.std.specs.Prelude.{ℕ, List, [], ◌∷◌, ◌++◌, length}
use Rattle.std.proofs.Math.Option.{Option}
use Rattle.lists.specs.Lists.{maybe}
use Rattle.refusals.specs.declared.Refusal.{Refusal}
use Rattle.refusals.specs.Refusals.{answering}
use Rattle.stages.specs.Contents.{contents}
use Rattle.stages.specs.Stages.{stages}
use Rattle.answers.specs.Answers.{Answer, given, refused}
use Rattle.operations.specs.Judge.{short_for, stored_in, unless_refused}
use Rattle.operations.specs.ValueList.{list_of, list_bytes, list_table}

unfoldable pub value_bytes : List ℕ → List ℕ
value_bytes s = list_bytes (list_of (contents s))

unfoldable pub value_table : List ℕ → List ℕ
value_table s = list_table (list_of (contents s))

module _ (buffer table s : List ℕ) where
  -- "Read: byte buffer before table"
  unfoldable pub read_refusal : Option Refusal
  read_refusal = answering (stages s ++ short_for (value_bytes s) buffer ∷ short_for (value_table s) table ∷ [])

  unfoldable pub read : Answer
  read = maybe (given (length (value_bytes s) ∷ length (value_table s) ∷ [])) refused read_refusal

  -- "The rest of both buffers keeps its values"; a refusal leaves both unchanged
  unfoldable pub read_bytes : List ℕ
  read_bytes = unless_refused read_refusal (stored_in buffer (value_bytes s)) buffer

  unfoldable pub read_table : List ℕ
  read_table = unless_refused read_refusal (stored_in table (value_table s)) table
