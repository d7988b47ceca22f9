-- `table_soundness::is_status` meets its contract. Assumes nothing.
use native.Mathlib.Omega.{arith}
use Rattle.std.proofs.lemmas.Grind.{common_steps}
use Rattle.lists.specs.Lists.{member}
use Rattle.table_soundness.proofs.is_status.Goals as goal

pub returns-in-77 : goal.returns-in-77
unfolding member
returns-in-77 c = grind (arith, common_steps)

pub returns-in_default : goal.returns-in_default
unfolding member
returns-in_default c = grind (arith, common_steps)
