-- `table_soundness::segment_fits` meets its contract. Assumes nothing.
use native.Mathlib.Omega.{arith}
use Rattle.std.proofs.lemmas.Grind.{common_steps}
use Rattle.message_tables.specs.Soundness.{segment_fits}
use Rattle.table_soundness.proofs.segment_fits.Goals as goal

pub returns-then-row-eq0 : goal.returns-then-row-eq0
unfolding segment_fits
returns-then-row-eq0 c = grind (arith, common_steps)

pub returns-else-row-eq0 : goal.returns-else-row-eq0
unfolding segment_fits
returns-else-row-eq0 c = grind (arith, common_steps)
