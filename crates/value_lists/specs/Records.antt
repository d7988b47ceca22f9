-- A table's records from left to right: the first that fails a test. Assumes nothing.
use Rattle.std.specs.Prelude.{ℕ, ◌+◌, Bool, not, List, [], ◌∷◌, slice_index, if◌then◌else◌}
use Rattle.std.proofs.Math.Option.{Option, none}
use Rattle.lists.specs.Lists.{all}
use Rattle.refusals.specs.declared.Fault.{Fault}
use Rattle.refusals.specs.declared.Refusal.{Refusal}
use Rattle.stage_walks.specs.Walks.{refuse}
use Rattle.operations.specs.ValueList.{Entry, entries}
use Rattle.operations.specs.Write.{bad_entry}
use Rattle.value_lists.specs.declared.Record.{Record}

-- three numbers that were read, as the paper's record
abbrev pub entry_of : Record → Entry
entry_of r = record { kind = r.kind; start = r.start; size = r.size }

-- the record that begins at a place of the table
abbrev pub record_at : List ℕ → ℕ → Entry
record_at table at = record { kind = slice_index table at; start = slice_index table (at + 1); size = slice_index table (at + 2) }

-- the refusal at the number of the first record that fails, the first one's number being given
unfoldable pub first_record : Fault → (Entry → Bool) → ℕ → List Entry → Option Refusal
first_record f fails n [] = none
first_record f fails n (e ∷ es) = if fails e then refuse f n else first_record f fails (n + 1) es

-- no record is bad
unfoldable pub well_listed : List ℕ → List ℕ → Bool
well_listed bytes table = all (λ e. not (bad_entry bytes e)) (entries table)
