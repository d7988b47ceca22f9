-- `table_soundness::is_stated` meets its contract. Assumes nothing.
use native.Mathlib.Omega.{arith}
use Rattle.std.proofs.lemmas.Grind.{common_steps}
use Rattle.characters.specs.Characters.{between}
use Rattle.table_soundness.specs.Fitting.{stated}
use Rattle.table_soundness.proofs.is_stated.Goals as goal

pub returns-then-row-ge1 : goal.returns-then-row-ge1
unfolding stated between
returns-then-row-ge1 c = grind (arith, common_steps)

pub returns-else-row-ge1 : goal.returns-else-row-ge1
unfolding stated between
returns-else-row-ge1 c = grind (arith, common_steps)
