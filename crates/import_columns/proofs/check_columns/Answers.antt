-- `import_columns::check_columns` meets its contract: a text without the heading is any other. Assumes nothing.
use mathlib.Core.Path.{sym, ◌∙◌}
use Rattle.import_columns.proofs.Checks.{not_headed}
use Rattle.import_columns.proofs.check_columns.Goals as goal

pub check_lines-requires : goal.check_lines-requires
check_lines-requires c = sym c.begins_heading.ensures ∙ c.if-begins_heading.true

pub returns-else-begins_heading : goal.returns-else-begins_heading
returns-else-begins_heading c = not_headed c.args.s.now (sym c.begins_heading.ensures ∙ c.if-begins_heading.false)
