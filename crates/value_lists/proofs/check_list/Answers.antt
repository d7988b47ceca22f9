-- `value_lists::check_list` meets its contract: the table as a whole, then record by record. Assumes nothing.
use Rattle.std.proofs.Common.{rules, ◌≡◌, true, false, sym, ap, ◌∙◌}
use Rattle.refusals.specs.Refusals.{outcome}
use Rattle.operations.specs.Write.{bad_table, bad_entry}
use Rattle.value_lists.proofs.Records.{table_bad, table_good, bad_length, bad_rest, first_told}
use Rattle.value_lists.proofs.check_list.Goals as goal
use Rattle.value_lists.proofs.check_list.Goals.{then-table-gt-MOST_NUMBERS-via-then-table-gt-MOST_NUMBERS, then-table-gt-MOST_NUMBERS-via-else-table-gt-MOST_NUMBERS+then-table-ne0, then-table-gt-MOST_NUMBERS-via-else-table-gt-MOST_NUMBERS+else-table-ne0+then-is_some_and}

pub returns-then-table-gt-MOST_NUMBERS : goal.returns-then-table-gt-MOST_NUMBERS
unfolding outcome
returns-then-table-gt-MOST_NUMBERS c =
    let table = c.args.table.now in
    c.failed.ensures
    ∙ ap outcome (sym (table_bad c.args.bytes.now table (elim c.then-table-gt-MOST_NUMBERS.branch [
      | then-table-gt-MOST_NUMBERS-via-then-table-gt-MOST_NUMBERS w ↦ bad_length table w.if-table-gt-MOST_NUMBERS.true
      | then-table-gt-MOST_NUMBERS-via-else-table-gt-MOST_NUMBERS+then-table-ne0 w ↦ bad_rest table w.if-table-ne0.true
      | then-table-gt-MOST_NUMBERS-via-else-table-gt-MOST_NUMBERS+else-table-ne0+then-is_some_and w ↦
          first_told table w.if-table-gt-MOST_NUMBERS.false w.if-table-ne0.false {b = true} (search rules)
    ])))

pub returns : goal.returns
unfolding outcome
returns c =
    let table = c.args.table.now in
    let good : bad_table table ≡ false = first_told table c.if-table-gt-MOST_NUMBERS.false c.if-table-ne0.false {b = false} (search rules) in
    c.check_each.ensures (bad_entry c.args.bytes.now) (λ r t e. search rules) ∙ ap outcome (sym (table_good c.args.bytes.now table good))
