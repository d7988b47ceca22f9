-- An entry as the code holds it. Assumes nothing.
use Rattle.std.specs.Prelude.{ℕ, List, [], ◌∷◌}
use Rattle.message_tables.specs.Entries.{Entry}
use Rattle.table_rows.specs.declared.Tag.{Tag}
use Rattle.table_rows.specs.declared.Row.{Row}

abbrev pub tag_bytes : Tag → List ℕ
tag_bytes t = t.first ∷ t.second ∷ t.third ∷ []

-- the entry that a row holds
abbrev pub entry_in : Row → Entry
entry_in r = record { tag = tag_bytes r.tag; status = r.status; repeats = r.repeats; under = r.under }
