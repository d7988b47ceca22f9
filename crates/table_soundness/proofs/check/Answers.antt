-- `table_soundness::check` meets its contract: the first entry that does not fit answers, or the size does. Assumes nothing.
use borrow.Author.Rules.{rules}
use Rattle.std.specs.Prelude.{Err}
use mathlib.Core.Path.{refl, ◌∙◌, ◌≡◌}
use Rattle.message_tables.specs.Entries.{whole_entries}
use Rattle.table_soundness.proofs.Scans.{entry_answers, size_answers}
use Rattle.table_soundness.proofs.check.Goals as goal

pub scan-requires : goal.scan-requires
unfolding whole_entries
scan-requires c = (refl, c.entries_asked.ensures)

pub returns-in_err-scan : goal.returns-in_err-scan
returns-in_err-scan c =
    let e : c.from_residual.result ≡ Err c.in_err-scan.field-0.0 = search rules in
    e ∙ entry_answers c.args.table.now c.scan.ensures c.in_err-scan.was

pub returns : goal.returns
returns c =
    c.check_size.ensures ∙ size_answers c.args.table.now c.scan.ensures c.in_ok-scan.was
