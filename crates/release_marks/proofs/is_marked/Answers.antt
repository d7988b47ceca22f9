-- `release_marks::is_marked` meets its contract: it is the definition. Assumes nothing.
use mathlib.Core.Path.{refl}
use Rattle.release_marks.specs.Marks.{marked}
use Rattle.release_marks.proofs.is_marked.Goals as goal

pub returns : goal.returns
unfolding marked
returns c = refl
