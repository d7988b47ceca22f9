-- `table_rows::is_group` meets its contract: a group's own tag is three zeros. Assumes nothing.
use mathlib.Core.Path.{ap, ◌∙◌}
use Rattle.lists.specs.Lists.{same}
use Rattle.message_tables.specs.Entries.{is_group}
use Rattle.table_rows.specs.declared.Tag.{Tag}
use Rattle.table_rows.specs.Rows.{tag_bytes}
use Rattle.table_rows.proofs.is_group.Goals as goal

pub returns : goal.returns
unfolding is_group
returns c = c.same_tag.ensures ∙ ap (λ (t : Tag). same (tag_bytes c.args.row.tag) (tag_bytes t)) c.no_tag.ensures
