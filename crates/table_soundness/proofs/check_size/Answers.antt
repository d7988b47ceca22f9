-- `table_soundness::check_size` meets its contract. Assumes nothing.
use mathlib.Core.Path.{◌∙◌}
use Rattle.message_tables.specs.Entries.{whole_entries}
use Rattle.table_soundness.proofs.Scans.{size_over, size_whole, size_part}
use Rattle.table_soundness.proofs.check_size.Goals as goal

pub returns-then-whole-gt-MOST : goal.returns-then-whole-gt-MOST
unfolding whole_entries
returns-then-whole-gt-MOST c = c.failed.ensures ∙ size_over c.args.table.now c.if-whole-gt-MOST.true

pub returns-then-table-eq0 : goal.returns-then-table-eq0
unfolding whole_entries
returns-then-table-eq0 c = size_whole c.args.table.now c.if-whole-gt-MOST.false c.if-table-eq0.true

pub returns-else-table-eq0 : goal.returns-else-table-eq0
unfolding whole_entries
returns-else-table-eq0 c = c.failed-else-table-eq0.ensures ∙ size_part c.args.table.now c.if-whole-gt-MOST.false c.if-table-eq0.false
