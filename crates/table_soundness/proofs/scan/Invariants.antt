-- `table_soundness::scan` meets its contract. The loop's invariant: the scan from the first entry on answers as it does from this one on,
-- with the groups that hold it. Assumes nothing.
use mathlib.Core.Path.{◌≡◌}
use mathlib.Core.Bool.{false}
use mathlib.Core.List.{[]}
use lib.ListN.{length}
use Rattle.message_tables.specs.Entries.{entries_of}
use Rattle.message_tables.specs.Soundness.{most_entries}
use Rattle.message_table_laws.specs.Scanning.{scanned}
use Rattle.table_soundness.proofs.Scans.{Kept, scans_from}
use Rattle.table_soundness.proofs.scan.Given as goal

abbrev pub invariant-loop-number : goal.invariant-loop-number
invariant-loop-number l = (length l.ends ≡ 10)
    × Kept l.table l.number l.depth l.ends
    × (scanned most_entries 0 false [] (entries_of l.table) ≡ scans_from l.table l.number l.after l.depth l.ends)
