-- Request 2026-11: "The caller lends the date and time, the new control reference and the message identification as value lists of one
-- element each." Assumes nothing.
use Rattle.std.specs.Prelude.{ℕ, Bool, not, ◌||◌, List, drop, leb}
use Rattle.lists.specs.Lists.{is_empty, any}
use Rattle.values.specs.Spelling.{Bytes}
use Rattle.operations.specs.ValueList.{entries, listed_in, closed, repeats_listed}
use Rattle.operations.specs.Write.{bad_list}

-- a value list as it is lent
pub record LentList : Type 0 where
  pub bytes : List ℕ
  pub table : List ℕ

-- "the date and time, the new control reference and the message identification"
pub record Lent : Type 0 where
  pub date : LentList
  pub reference : LentList
  pub message : LentList

-- as the operation takes them: the bytes and the table of each, in the order in which the request names them
abbrev pub lent_by : (dateBytes dateTable referenceBytes referenceTable messageBytes messageTable : List ℕ) → Lent
lent_by dateBytes dateTable referenceBytes referenceTable messageBytes messageTable =
    record {
      date = record { bytes = dateBytes; table = dateTable };
      reference = record { bytes = referenceBytes; table = referenceTable };
      message = record { bytes = messageBytes; table = messageTable };
    }

-- the element that it lists: its repeats, each with its values
unfoldable pub element_lent : LentList → List (List Bytes)
element_lent l = repeats_listed (closed (listed_in l.bytes l.table))

-- "if a lent list is empty, breaks 15 or has kind 0 or 1 after its first record"
unfoldable pub is_bad_lent : LentList → Bool
is_bad_lent l =
    is_empty (entries l.table)
    || not (is_empty (bad_list l.bytes l.table))
    || any (λ e. leb e.kind 1) (drop 1 (entries l.table))

unfoldable pub any_bad_lent : Lent → Bool
any_bad_lent l = is_bad_lent l.date || is_bad_lent l.reference || is_bad_lent l.message
