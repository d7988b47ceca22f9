-- `table_soundness::is_trigger` meets its contract. Assumes nothing.
use native.Mathlib.Omega.{arith}
use Rattle.std.proofs.lemmas.Grind.{common_steps}
use Rattle.message_tables.specs.Soundness.{is_trigger}
use Rattle.table_soundness.proofs.is_trigger.Goals as goal

pub returns-then-is_mandatory : goal.returns-then-is_mandatory
unfolding is_trigger
returns-then-is_mandatory c = grind (arith, common_steps)

pub returns-else-is_mandatory : goal.returns-else-is_mandatory
unfolding is_trigger
returns-else-is_mandatory c = grind (arith, common_steps)
