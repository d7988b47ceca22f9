-- `table_soundness::group_fits` meets its contract. Assumes nothing.
use native.Mathlib.Omega.{arith}
use Rattle.std.proofs.lemmas.Grind.{common_steps}
use Rattle.table_soundness.specs.Fitting.{group_fits_within}
use Rattle.table_soundness.proofs.group_fits.Goals as goal

pub returns-then-depth-lt-MOST_DEPTH : goal.returns-then-depth-lt-MOST_DEPTH
unfolding group_fits_within
returns-then-depth-lt-MOST_DEPTH c = grind (arith, common_steps)

pub returns-else-depth-lt-MOST_DEPTH : goal.returns-else-depth-lt-MOST_DEPTH
unfolding group_fits_within
returns-else-depth-lt-MOST_DEPTH c = grind (arith, common_steps)
