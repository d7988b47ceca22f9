-- `table_soundness::is_table_tag` meets its contract, byte by byte. Assumes nothing.
use native.Mathlib.Omega.{arith}
use Rattle.std.proofs.lemmas.Grind.{common_steps}
use Rattle.lists.specs.Lists.{begins, same}
use Rattle.message_tables.specs.Soundness.{is_table_tag}
use Rattle.table_soundness.proofs.is_table_tag.Goals as goal

pub returns-then-tag-ne78 : goal.returns-then-tag-ne78
unfolding is_table_tag begins same
returns-then-tag-ne78 c = grind (arith, common_steps)

pub returns-else-tag-ne78 : goal.returns-else-tag-ne78
unfolding is_table_tag begins same
returns-else-tag-ne78 c = grind (arith, common_steps)

pub returns-else-is_tag : goal.returns-else-is_tag
unfolding is_table_tag begins same
returns-else-is_tag c = grind (arith, common_steps)
